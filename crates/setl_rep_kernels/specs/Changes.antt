-- One member more or less in a set of numbers.
use Rattle.std.specs.Prelude.{◌≡◌, ℕ, ◌<◌, ◌≤◌, Bool, true, false, [], ◌∷◌, Some, None, Result, Ok, Err, IfOk, OnErr}
use Rattle.std.specs.Ordering.{nat_cmp}
use Rattle.std.specs.FinSet as set
use Rattle.setl_value.specs.Datum.{Datum, depth, part_depth, set_of}
use Rattle.setl_base.specs.declared.Elt.{Elt}
use Rattle.setl_base.specs.Base.{BaseState, find, value_of}
use Rattle.setl_operators_table.specs.declared.OpFault.{OpFault}
use Rattle.setl_operators_table.specs.declared.OpFault.TheVariants.{Deep}
use Rattle.setl_operators_table.specs.Operators.{op_of}
use Rattle.setl_rep_bases.specs.declared.BaseId.{BaseId}
use Rattle.setl_rep_bases.specs.Bases.{BasesState, base_at}
use Rattle.setl_rep_forms.specs.Form.{Form, numbers, remote}
use Rattle.setl_rep_forms.specs.Stands.{members_at, AreLiving, stands}
use Rattle.setl_rep_kernels.specs.declared.changes.Plan.{Plan}
use Rattle.setl_rep_kernels.specs.declared.changes.Plan.TheVariants.{NoKernel, Stays, Puts}
use Rattle.setl_rep_kernels.specs.Kernels.{can_change, change_of, is_single, ChangeTells}

-- what is done to the numbers of a set on the base b as x comes in or goes out: nothing, where x is held in another form, or
-- comes in and is no member; nothing either, where it goes out and is no member; else its handle is put in or taken out,
-- unless it comes in and is 500 deep
abbrev pub IsPlan : BasesState → BaseId → (x : Form) → (on : Bool) → Result Plan OpFault → Type 0
IsPlan bs b x on (Ok NoKernel) = can_change bs b on x ≡ false
IsPlan bs b x on (Ok Stays) = (on ≡ false) × (is_single x ≡ true) × (d : Datum) × (stands bs x ≡ Some d) × (find (base_at bs b) d ≡ None)
IsPlan bs b x on (Ok (Puts e)) = (is_single x ≡ true) × (d : Datum) × (stands bs x ≡ Some d) × (value_of (base_at bs b) e ≡ Some d) × (on ≡ true → depth d < 500)
IsPlan bs b x on (Err Deep) = (on ≡ true) × (d : Datum) × (stands bs x ≡ Some d) × (500 ≤ depth d)
IsPlan bs b x on (Err f) = ⊥

-- the numbers of a set on the base b, old and new, where x comes in or goes out
pub record IsChange (bs : BasesState) (b : BaseId) (x : Form) (on : Bool) (old new : set.FinSet nat_cmp) (result : Result Bool OpFault) : Type 0 where
  pub value : (left : ℕ) → ChangeTells result (op_of (change_of on) (stands bs (numbers remote b old) ∷ stands bs x ∷ []) left) (stands bs (numbers remote b new))
  pub kernel : IfOk result (λ t. t ≡ can_change bs b on x)
  pub living : AreLiving (base_at bs b) new
  pub shallow : depth (set_of (members_at (base_at bs b) new)) ≤ 500
  pub none : IfOk result (λ t. t ≡ false → new ≡ old)
  pub refused : OnErr result (new ≡ old)

-- the same for a member that comes in or goes out
abbrev pub IsPutPlan : BaseState → Elt → (on : Bool) → Result Plan OpFault → Type 0
IsPutPlan b e on (Ok (Puts f)) = (f ≡ e) × (on ≡ true → part_depth (value_of b e) < 500)
IsPutPlan b e on (Err Deep) = (on ≡ true) × (500 ≤ part_depth (value_of b e))
IsPutPlan b e on r = ⊥
