-- One command more.
use Rattle.std.proofs.Common.{◌≡◌, ◌⊎◌, ◌+◌, ◌<◌, ◌∙◌, ℕ, List, [], ◌∷◌, ◌++◌, Option, Some, None, inl, inr, take, length, slice_get, refl, sym, ap, subst, arith}
use Rattle.std.specs.Io.KnownBytes.{Appends}
use Rattle.std.proofs.lemmas.List.{append_assoc, append-nil}
use Rattle.setl_debug.specs.Ends.{Ends, IsCut, IsCutInside, IsDone}
use Rattle.setl_debug.specs.Sessions.{Does, Follows}
use Rattle.setl_debug.specs.code.Steps.{Breaks, IsFollowed, IsPartly, Steps}
use Rattle.setl_debug.specs.declared.sessions.Ended.{Ended}
use Rattle.setl_debug.specs.declared.sessions.Ended.TheVariants.{Done, WriteFault, NoMemory}
use Rattle.setl_debug_script.specs.declared.command.Command.{Command}
use Rattle.setl_debug_target.specs.Screens.{Screen}

-- two pieces one after the other
appends_both : (a b c : Option (List ℕ)) (x y : List ℕ) → Appends a b x → Appends b c y → Appends a c (x ++ y)
appends_both None b c x y p q = tt
appends_both (Some s) None c x y p q = absurd p
appends_both (Some s) (Some t) None x y p q = absurd q
appends_both (Some s) (Some t) (Some u) x y p q = q ∙ (ap (λ l. l ++ y) p ∙ append_assoc s x y)

follows_more : (shows : ℕ → Screen → Type 0) (cs : List Command) (c : Command) (k middle next : ℕ) (told more : List ℕ) → Follows shows cs k told middle → Does shows c middle more next → Follows shows (cs ++ c ∷ []) k (told ++ more) next
follows_more shows [] c k middle next told more f d =
    (more, [], next, subst (λ j. Does shows c j more next) f.1 d, (refl, refl), ap (λ l. l ++ more) f.0 ∙ sym (append-nil more))
follows_more shows (x ∷ cs) c k middle next told more f d =
    (f.0, f.1 ++ more, f.2, f.3, follows_more shows cs c f.2 middle next f.1 more f.4 d, ap (λ l. l ++ more) f.5 ∙ append_assoc f.0 f.1 more)

pub followed_more : (shows : ℕ → Screen → Type 0) (cs : List Command) (c : Command) (a b d : Option (List ℕ)) (k f g next : ℕ) → IsFollowed shows cs a b k → Steps shows c k b d f g next → IsFollowed shows (cs ++ c ∷ []) a d next
followed_more shows cs c a b d k f g next done step = record {
  told = done.told ++ step.told;
  follows = follows_more shows cs c 0 k next done.told step.told done.follows step.does;
  gained = appends_both a b d done.told step.told done.gained step.gained;
}

cut_inside : (shows : ℕ → Screen → Type 0) (cs : List Command) (n : ℕ) (c : Command) (a b d : Option (List ℕ)) (k : ℕ) → slice_get cs n ≡ Some c → IsFollowed shows (take n cs) a b k → IsPartly shows c k b d → IsCutInside shows cs a d
cut_inside shows cs n c a b d k there done partly = record {
  n = n;
  c = c;
  there = there;
  told = done.told;
  k = k;
  follows = done.follows;
  more = partly.told;
  next = partly.next;
  does = partly.does;
  m = partly.m;
  part = partly.part;
  gained = appends_both a b d done.told (take partly.m partly.told) done.gained partly.gained;
}

cut : (shows : ℕ → Screen → Type 0) (cs : List Command) (n : ℕ) (a b d : Option (List ℕ)) (k : ℕ) → IsFollowed shows (take n cs) a b k → Appends b d [] → IsCut shows cs a d
cut shows cs n a b d k done none = record {
  n = n;
  done = record { told = done.told; next = k; follows = done.follows; gained = subst (Appends a d) (append-nil done.told) (appends_both a b d done.told [] done.gained none) };
}

-- a command breaks off behind those that were followed
pub broken : (shows : ℕ → Screen → Type 0) (cs : List Command) (n : ℕ) (c : Command) (a b d : Option (List ℕ)) (k f g : ℕ) (e : Ended) → slice_get cs n ≡ Some c → IsFollowed shows (take n cs) a b k → Breaks shows c k b d f g e → Ends shows cs a d f g e
broken shows cs n c a b d k f g Done there done h = absurd h
broken shows cs n c a b d k f g WriteFault there done h = (cut_inside shows cs n c a b d k there done h.0, h.1)
broken shows cs n c a b d k f g NoMemory there done h =
    (elim h.0 as (λ _. IsCut shows cs a d ⊎ IsCutInside shows cs a d) [ inl none ↦ inl (cut shows cs n a b d k done none) | inr partly ↦ inr (cut_inside shows cs n c a b d k there done partly) ], h.1)
