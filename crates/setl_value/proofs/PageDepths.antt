-- The depth of a set by its pages.
use Rattle.std.specs.Prelude.{◌≡◌, List, [], ◌∷◌, ◌++◌, map, max}
use Rattle.std.proofs.Common.{arith, ap}
use Rattle.std.proofs.lemmas.List.{map-append, append-nil}
use Rattle.setl_value.specs.declared.Value.{Value}
use Rattle.setl_value_pages.specs.Pages.{joined}
use Rattle.setl_value.specs.Datum.{depth, set_of}
use Rattle.setl_value.specs.code.DatumOf.{datum, page}
use Rattle.setl_value.proofs.Bodies.{depth_append}
use Rattle.setl_value_pages.specs.PageLaws.{Shared, joined_append}

-- the depth of a set whose last page is p
pub set_of_pages : (ps rest : List (Shared Value)) (p : Shared Value) (vs : List Value) → ps ≡ rest ++ p ∷ [] → vs ≡ p.value.items
    → depth (set_of (joined (map page ps))) ≡ max (depth (set_of (joined (map page rest)))) (depth (set_of (map datum vs)))
set_of_pages ps rest p vs e v =
    omega (
      arith,
      ap (λ l. depth (set_of (joined (map page l)))) e,
      ap (λ l. depth (set_of (joined l))) (map-append page rest (p ∷ [])),
      ap (λ l. depth (set_of l)) (joined_append (map page rest) (page p ∷ [])),
      ap (λ l. depth (set_of (joined (map page rest) ++ l))) (append-nil (page p)),
      depth_append (joined (map page rest)) (page p),
      ap (λ l. depth (set_of (map datum l))) v,
    )
