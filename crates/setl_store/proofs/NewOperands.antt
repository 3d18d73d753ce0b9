-- Stores of which nothing but the operands of the body at work changed.
use Rattle.std.proofs.Common.{◌≡◌, ℕ, List, sym, ap, ◌∙◌, subst}
use Rattle.setl_code.specs.declared.code.Code.{Code}
use Rattle.setl_code.specs.CodeCore as core
use Rattle.setl_code.specs.MayRun.{MayRun}
use Rattle.setl_code.specs.Plain.{plain_code}
use Rattle.setl_rep_bases.specs.Bases.{BasesState}
use Rattle.setl_store.specs.Standing.{Standing, over}
use Rattle.setl_store.specs.declared.cells.Kept.{Kept}
use Rattle.setl_store.specs.Flat.{Here, now_operands, stands, IsSound, AllSound}
use Rattle.setl_store.proofs.OperandLists.{Changed}

-- it has operands of which this is told
pub data NowHas (told : List core.Operand → Type 0) (code : Code) (bs : BasesState) (keeps : ℕ) (at : ℕ) (e : Here) (kept : List (Here × Kept)) (s : Standing) : Type 0 where
  now_has : (xs : List core.Operand) → told xs → Changed code bs keeps at e kept s (over xs s.core) → NowHas told code bs keeps at e kept s

module _ (told : List core.Operand → Type 0) (code : Code) (bs : BasesState) (keeps : ℕ) (at : ℕ) (e : Here) (kept : List (Here × Kept)) (s : Standing) where
  pub told_of_now : NowHas told code bs keeps at e kept s → told (now_operands bs e)
  told_of_now (now_has xs is to) = subst told (sym (ap (λ (t : Standing). t.core.now.operands) to.stands)) is

  pub rest_same : NowHas told code bs keeps at e kept s → stands code bs at e kept ≡ record s { core = over (now_operands bs e) s.core }
  rest_same (now_has xs is to) = to.stands ∙ ap (λ l. record s { core = over l s.core }) (sym (ap (λ (t : Standing). t.core.now.operands) to.stands))

  pub still_holds : NowHas told code bs keeps at e kept s → MayRun code × IsSound (plain_code code) bs e × AllSound (plain_code code) bs keeps e.slots kept
  still_holds (now_has xs is to) = to.holds
