-- Telling in parts.
use Rattle.std.proofs.Common.{◌≡◌, ◌∙◌, List, [], ◌∷◌, ◌++◌, map, refl, ap}
use Rattle.std.proofs.lemmas.List.{map-append}
use Rattle.setl_watch.specs.Notices.{Notice, noticed}
use Rattle.setl_watch.specs.Watches.{Watched, told, told_each, ToldInParts}

each_in_parts : (ns ms : List Notice) (h : Watched) → told_each (ns ++ ms) h ≡ told_each ms (told_each ns h)
each_in_parts [] ms h = refl
each_in_parts (n ∷ ns) ms h = each_in_parts ns ms (told n h.watchers h.reports)

pub in_parts : ToldInParts
in_parts es fs h = ap (λ ns. told_each ns h) (map-append noticed es fs) ∙ each_in_parts (map noticed es) (map noticed fs) h
