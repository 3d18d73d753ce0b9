-- How the activations lie in flat lists of slots, operands and members. No public clause cites this module.
use Rattle.std.specs.Prelude.{◌≡◌, Bool, false, ℕ, zero, suc, ◌-◌, ◌+◌, ◌<◌, ◌≤◌, ◌^◌, List, [], ◌∷◌, ◌++◌, length, take, drop, map, reverse, Option, Some, None, slice_get, slice_set}
use Rattle.std.specs.FinMap as finmap
use Rattle.std.specs.Option.{option_map_or}
use Rattle.setl_value.specs.Datum.{bool}
use Rattle.setl_value.specs.code.DatumOf.{datum}
use Rattle.setl_value.specs.declared.Value.TheVariants as value
use Rattle.setl_model_runs.specs.Variable.{Variable}
use Rattle.setl_model.specs.Entered.{Base}
use Rattle.setl_store_environment.specs.Environment.{Contents}
use Rattle.setl_code.specs.declared.code.Body.{Body}
use Rattle.setl_code.specs.declared.code.Code.{Code}
use Rattle.setl_code.specs.declared.code.Step.{Step}
use Rattle.setl_code.specs.declared.code.Slot.{Slot}
use Rattle.setl_code.specs.declared.code.Slot.TheVariants as slot
use Rattle.setl_code.specs.Code as plain
use Rattle.setl_code.specs.Plain.{plain_code}
use Rattle.setl_code.specs.CodeCore as core
use Rattle.setl_code.specs.CodeCore.{Cells, Activation, Copy, CodeCore}
use Rattle.setl_rep_bases.specs.declared.BaseId.{BaseId}
use Rattle.setl_rep_bases.specs.BaseId.{main}
use Rattle.setl_rep_bases.specs.Bases.{BasesState, base_at}
use Rattle.setl_rep_bases.specs.Marks.{Marks}
use Rattle.setl_rep_entering.specs.Entering.{values_in}
use Rattle.setl_rep_plain.specs.Standing.{held_value}
use Rattle.setl_store_kept.specs.Kept.{kept_shown, KeptSound}
use Rattle.setl_store_slots.specs.Slots.{AreStanding}
use Rattle.setl_store_slots.specs.declared.cells.Held.{Held}
use Rattle.setl_store_slots.specs.declared.cells.Held.TheVariants as held
use Rattle.setl_store_operands.specs.declared.cells.Operand.{Operand}
use Rattle.setl_store_operands.specs.declared.cells.Operand.TheVariants as operand
use Rattle.setl_store.specs.declared.cells.FieldContent.{FieldContent}
use Rattle.setl_store.specs.declared.cells.Frame.{Frame}
use Rattle.setl_store.specs.declared.cells.Kept.{Kept}
use Rattle.setl_store_operands.specs.declared.cells.Member.{Member}
use Rattle.setl_store_operands.specs.Lending.{value_as, IsOverAs}
use Rattle.setl_store_operands.specs.Operands.{operand_of, AreOperandsOver, GotAll, HasMembers, IsOperandOver}
use Rattle.setl_store_operands.specs.declared.lent.AsHeld.{AsHeld}
use Rattle.setl_store.specs.Standing.{Standing, no_world, variables_by}

-- ---- slots

-- what a slot holds, over bases
abbrev pub held_of : BasesState → Held → core.Held
held_of bs held.Om = core.There None
held_of bs (held.Value v) = core.There (Some (datum v))
held_of bs held.Taken = core.Gone
held_of bs (held.Based m h) = core.There (held_value bs h)

-- it is a value as it is, or `om`
abbrev pub IsPlainSlot : Held → Type 0
IsPlainSlot held.Om = Unit {0}
IsPlainSlot (held.Value v) = Unit {0}
IsPlainSlot held.Taken = ⊥
IsPlainSlot (held.Based m h) = ⊥

-- variables with what their slots hold
abbrev pub cells : List Variable → List core.Held → Cells
cells [] hs = []
cells (x ∷ xs) [] = []
cells (x ∷ xs) (h ∷ hs) = (x, h) ∷ cells xs hs

abbrev pub names_of : plain.Code → ℕ → List Variable
names_of c n = variables_by n (slice_get c.bodies n)

-- a step of a body that may not exist
abbrev pub step_of : Option Body → ℕ → Option Step
step_of None at = None
step_of (Some b) at = slice_get b.steps at

-- how many own variables it has
abbrev pub own_count_of : Option Body → ℕ
own_count_of None = 0
own_count_of (Some b) = length b.parameters + length b.names

-- ---- activations

-- Of the activations over these slots and operands, the innermost first, each has those from its lowest on.
abbrev pub body_in : List Frame → ℕ
body_in [] = 0
body_in (f ∷ fs) = f.body

abbrev pub own_in : plain.Code → List Frame → List core.Held → Cells
own_in c [] hs = []
own_in c (f ∷ fs) hs = cells (names_of c f.body) (drop f.slots hs)

abbrev pub operands_in : List Frame → List core.Operand → List core.Operand
operands_in [] os = []
operands_in (f ∷ fs) os = reverse (drop f.operands os)

-- the number of the lowest operand of the innermost one
abbrev pub lowest_in : List Frame → ℕ
lowest_in [] = 0
lowest_in (f ∷ fs) = f.operands

-- the place of a slot of the innermost one
abbrev pub slots_in : List Frame → ℕ
slots_in [] = 0
slots_in (f ∷ fs) = f.slots

abbrev pub place_in : List Frame → Slot → ℕ
place_in fs (slot.Global k) = k
place_in fs (slot.Own k) = slots_in fs + k

-- the place of a slot of the outermost one
abbrev pub main_place : Code → Slot → ℕ
main_place c (slot.Global k) = k
main_place c (slot.Own k) = length c.vars + k

-- the innermost one, at this place
abbrev pub activation : plain.Code → ℕ → List Frame → List core.Held → List core.Operand → Activation
activation c at fs hs os = record { body = body_in fs; at = at; own = own_in c fs hs; operands = operands_in fs os }

-- those that wait for it
abbrev pub callers : plain.Code → List Frame → List core.Held → List core.Operand → List Activation
callers c [] hs os = []
callers c (f ∷ []) hs os = []
callers c (f ∷ g ∷ fs) hs os = activation c f.from (g ∷ fs) (take f.slots hs) (take f.operands os) ∷ callers c (g ∷ fs) (take f.slots hs) (take f.operands os)

-- ---- the whole

abbrev pub Here : Type 0
Here = Contents Held Operand Frame Member FieldContent

abbrev pub helds : BasesState → Here → List core.Held
helds bs e = map (held_of bs) e.slots

abbrev pub results : BasesState → Here → List core.Operand
results bs e = map (operand_of bs e.members) e.operands

-- what `ok` kept of the bases
abbrev pub marks_in : Kept → Marks
marks_in k = k.marks

-- What `ok` keeps has its answer `false` on top, so that `fail` brings that back too; the copy lacks it.
abbrev pub copy_of : plain.Code → BasesState → Here × Kept → Copy
copy_of c bs k = record {
  globals = cells c.vars (helds bs k.0);
  now =
      record {
        body = body_in (reverse k.0.activations);
        at = k.1.at;
        own = own_in c (reverse k.0.activations) (helds bs k.0);
        operands = drop 1 (operands_in (reverse k.0.activations) (results bs k.0));
      };
  callers = callers c (reverse k.0.activations) (helds bs k.0) (results bs k.0);
}

-- each kept one over the bases cut to its marks
abbrev pub copies_of : plain.Code → BasesState → List (Here × Kept) → List Copy
copies_of c bs kept = kept_shown marks_in (copy_of c) bs kept

abbrev pub core_of : plain.Code → BasesState → ℕ → Here → List (Here × Kept) → CodeCore
core_of c bs at e kept = record {
  globals = cells c.vars (helds bs e);
  now = activation c at (reverse e.activations) (helds bs e) (results bs e);
  callers = callers c (reverse e.activations) (helds bs e) (results bs e);
  kept = copies_of c bs kept;
  world = no_world;
}

-- how many members the main program's base of this number had by marks
abbrev pub count_in : ℕ → Marks → ℕ
count_in n ms = option_map_or (λ m. m.count) (finmap.get ms (main n)) 0

abbrev pub base_of : BasesState → List (Here × Kept) → ℕ → Base
base_of bs kept n = record { members = values_in (base_at bs (main n)); kept = map (λ k. count_in n (marks_in k.1)) kept }

-- so many of the main program's bases, from the n-th on
abbrev pub bases_from : (n count : ℕ) → BasesState → List (Here × Kept) → List Base
bases_from n zero bs kept = []
bases_from n (suc count) bs kept = base_of bs kept n ∷ bases_from (suc n) count bs kept

-- the bases that a store tells
abbrev pub bases_of : BasesState → List (Here × Kept) → List Base
bases_of bs kept = bases_from 0 bs.count bs kept

-- what a store over this environment stands for
abbrev pub stands : Code → BasesState → ℕ → Here → List (Here × Kept) → Standing
stands code bs at e kept = record { code = code; core = core_of (plain_code code) bs at e kept; bases = bases_of bs kept }

-- ---- what always holds

-- The activations, the innermost first, lie behind the globals one behind the other, the main program's the lowest; each
-- has a slot for each of its variables.
abbrev pub IsShaped : plain.Code → List Frame → (slots operands : ℕ) → Type 0
IsShaped c [] n m = ⊥
IsShaped c (f ∷ []) n m = (f.body ≡ 0) × (f.slots ≡ length c.vars) × (f.operands ≡ 0) × (n ≡ f.slots + length (names_of c f.body))
IsShaped c (f ∷ g ∷ fs) n m = (n ≡ f.slots + length (names_of c f.body)) × (f.operands ≤ m) × IsShaped c (g ∷ fs) f.slots f.operands

abbrev pub GotThese : core.Operand → Type 0
GotThese (core.Collecting what vs) = GotAll what vs
GotThese o = Unit {0}

abbrev pub AllGot : List core.Operand → Type 0
AllGot [] = Unit {0}
AllGot (o ∷ os) = GotThese o × AllGot os

pub record IsSound (c : plain.Code) (bs : BasesState) (e : Here) : Type 0 where
  pub some : 0 < length e.activations
  pub shaped : IsShaped c (reverse e.activations) (length e.slots) (length e.operands)
  pub members : HasMembers (reverse e.operands) (length e.members)
  pub got : AllGot (results bs e)
  pub operands : AreOperandsOver bs e.operands

-- the operands of the body at work, the top first
abbrev pub now_operands : BasesState → Here → List core.Operand
now_operands bs e = operands_in (reverse e.activations) (results bs e)

-- the value that so many operands of the body at work stand above, as it is held
pub record IsHeldBelow (e : Here) (n : ℕ) (h : AsHeld) : Type 0 where
  pub operand : Operand
  pub there : lowest_in (reverse e.activations) + n < length e.operands
  pub is : Some operand ≡ slice_get e.operands (length e.operands - 1 - n)
  pub value : (bs : BasesState) (ms : List Member) → operand_of bs ms operand ≡ core.Result (value_as bs h)
  pub over : (bs : BasesState) → IsOperandOver bs operand → IsOverAs bs h

-- what was kept, over the bases of then: it has its answer on top
pub record WasSound (c : plain.Code) (bs : BasesState) (e : Here) : Type 0 where
  pub sound : IsSound c bs e
  pub answered : now_operands bs e ≡ core.Result (Some (bool false)) ∷ drop 1 (now_operands bs e)
  pub standing : AreStanding bs e.slots

-- no base was cut
abbrev pub AreUncut : BasesState → Type 0
AreUncut bs = (i : BaseId) → (base_at bs i).cuts ≡ 0

-- These slots stand over the bases, and each kept one over the bases cut to its marks. Each cut uses up a kept one, so that no
-- instance was cut more often than something was kept.
pub record AllSound (c : plain.Code) (bs : BasesState) (keeps : ℕ) (slots : List Held) (kept : List (Here × Kept)) : Type 0 where
  pub standing : AreStanding bs slots
  pub older : KeptSound marks_in (WasSound c) bs kept
  pub cuts : (i : BaseId) → (base_at bs i).cuts + length kept ≤ keeps
  pub few : keeps < 2 ^ 63

-- ---- changes

-- with one more operand
abbrev pub with_operand : Here → Operand → Here
with_operand e o = record e { operands = e.operands ++ o ∷ [] }

-- with these lowest operands and members
abbrev pub cut_to : Here → (operands members : ℕ) → Here
cut_to e k m = record e { operands = take k e.operands; members = take m e.members }

-- with this in a slot
abbrev pub with_slot : Here → ℕ → Held → Here
with_slot e n v = record e { slots = slice_set e.slots n v }

-- without the innermost activation f, and the members from m on
abbrev pub without : Here → Frame → ℕ → Here
without e f m = record e { slots = take f.slots e.slots; operands = take f.operands e.operands; activations = take (length e.activations - 1) e.activations; members = take m e.members }

-- with a truth value pushed, as `ok` pushes it
abbrev pub answering : Here → Bool → Here
answering e b = with_operand e (operand.Value (value.Bool b))
