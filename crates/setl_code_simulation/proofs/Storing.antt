-- The code of stores and updates follows their meaning.
use Rattle.std.proofs.Common.{◌<◌, ℕ, suc, List, [], ◌∷◌, length, Option, Some, None, refl, arith}
use Rattle.std.specs.Prelude.{slice_get}
use Rattle.setl_value.specs.Datum.{Datum}
use Rattle.setl_model_runs.specs.Run.{Store}
use Rattle.setl_program.specs.Program.{Slots, Program}
use Rattle.setl_model.specs.Core.{Shared, Result, Frame, Storing, Snapshot, line_of}
use Rattle.setl_model.specs.Slots.{slot_stores}
use Rattle.setl_code.specs.Code.{Code}
use Rattle.setl_code.specs.Piece.{Labels, past, Stands}
use Rattle.setl_code.specs.Generated.{store_slots}
use Rattle.setl_code.specs.CodeCore.{Cells, Operand, Copy}
use Rattle.setl_code.specs.Machine.{first_parts}
use Rattle.setl_code_simulation.specs.Follow.{by_step, by_none}
use Rattle.setl_code_simulation.specs.Matches.{Where, steps_in, Fills, filled, skips, fills, AfterStores, storing, rank_slots}
use Rattle.setl_code_simulation.proofs.Parts.{Same, matched, stored}
use Rattle.setl_code_simulation.proofs.Expressions.{Answered}

-- the first parts of a tuple fill its slots
pub parts_fill : (slots : Slots) (vs : List (Option Datum)) (xs : List Operand) → Fills slots (first_parts (length slots) vs xs) (slot_stores slots vs) xs
parts_fill [] vs xs = filled
parts_fill (None ∷ slots) [] xs = skips refl (parts_fill slots [] xs)
parts_fill (Some x ∷ slots) [] xs = fills refl (parts_fill slots [] xs)
parts_fill (None ∷ slots) (v ∷ vs) xs = skips refl (parts_fill slots vs xs)
parts_fill (Some x ∷ slots) (v ∷ vs) xs = fills refl (parts_fill slots vs xs)

module _ (c : Code) (pr : Program) where
  -- the stores that are left are made one by one; then comes what follows them
  pub storing_answered : {p : Where} {slots : Slots} {stores : List Store} {v : Option Datum} {os xs : List Operand} {w : List Frame} (done : (at : ℕ) (g o : Cells) (s : Shared) (ks : List Copy) (ss : List Snapshot) → Same c pr.procedures g o s ks ss → AfterStores c pr.procedures p at xs v w → Answered c pr 0 (slice_get (steps_in c p) at) g o s p at xs ks (Result v) (Storing [] ∷ w) ss) (l : Labels) (at : ℕ) (g o : Cells) (s : Shared) (ks : List Copy) (ss : List Snapshot) → Same c pr.procedures g o s ks ss → Fills slots os stores xs → Stands (steps_in c p) l at (store_slots (line_of w) slots at) → AfterStores c pr.procedures p (past at (store_slots (line_of w) slots at)) xs v w → Answered c pr (rank_slots slots) (slice_get (steps_in c p) at) g o s p at os ks (Result v) (Storing stores ∷ w) ss
  storing_answered done l at g o s ks ss same filled here after = done at g o s ks ss same after
  storing_answered done l at g o s ks ss same (skips {slots = slots} is later) here after =
      let less : rank_slots slots < suc (rank_slots slots) = omega arith in
      rw (here.0, is) (by_none tt (matched c pr.procedures same (storing l later here.1 after)) less)
  storing_answered {w = w} done l at g o s ks ss same (fills {x = x} {v = u} {os = ys} is later) here after =
      rw (here.0, is) (by_step tt (stored c pr.procedures x (line_of w) u at _ ys _ _ same (storing l later here.1 after)))
