-- What the slots of parameters hold, and what a return hands back of them.
use Rattle.std.specs.Prelude.{◌≡◌, Bool, true, false, List, [], ◌∷◌, ◌++◌, Option, Some, None}
use Rattle.std.specs.Option.{option_map}
use Rattle.setl_value.specs.Datum.{Datum}
use Rattle.setl_tree.specs.declared.tree.Param.{Param}
use Rattle.setl_tree.specs.declared.tree.Passing.{Passing}
use Rattle.setl_tree.specs.declared.tree.Passing.TheVariants.{Rd, Wr, Rw}
use Rattle.setl_rep_bases.specs.Bases.{BasesState}
use Rattle.setl_store_slots.specs.declared.cells.Held.{Held}
use Rattle.setl_store_slots.specs.Slots.{content_of}

-- with what a slot holds behind these values; a slot whose value was taken holds nothing
abbrev pub and_held : BasesState → Held → Option (List (Option Datum)) → Option (List (Option Datum))
and_held bs h None = None
and_held bs h (Some vs) = option_map (λ v. vs ++ v ∷ []) (content_of bs h)

-- with what a parameter hands back of its slot
abbrev pub and_handed : BasesState → Passing → Held → Option (List (Option Datum)) → Option (List (Option Datum))
and_handed bs Rd h vs = vs
and_handed bs Wr h vs = and_held bs h vs
and_handed bs Rw h vs = and_held bs h vs

-- A value, and behind it what the `wr` and `rw` parameters hold in these slots, the first one last; or one of them was
-- taken, or there are too few slots.
abbrev pub handed : BasesState → List Param → List Held → Option Datum → Option (List (Option Datum))
handed bs [] hs v = Some (v ∷ [])
handed bs (p ∷ ps) [] v = None
handed bs (p ∷ ps) (h ∷ hs) v = and_handed bs p.passing h (handed bs ps hs v)

-- it was added, or was taken
abbrev pub Adds : Option (List (Option Datum)) → Bool → List (Option Datum) → Type 0
Adds to true new = to ≡ Some new
Adds to false new = to ≡ None
