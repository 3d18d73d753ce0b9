-- The steps of a body as far as they matter to what is read later, and what becomes of them.
use Rattle.std.specs.Prelude.{◌≡◌, ℕ, zero, suc, ◌+◌, [], Bool, false, ◌&&◌, not, List, map, length, get_or, cond, ◌<◌, slice_get, Option, Some, None}
use Rattle.std.specs.Option.{option_map}
use Rattle.setl_tree.specs.declared.tree.Param.{Param}
use Rattle.setl_model_runs.specs.Variable.{Variable, Global}
use Rattle.setl_code.specs.declared.code.Slot.{Slot}
use Rattle.setl_code.specs.declared.code.Slot.TheVariants as slot
use Rattle.setl_code.specs.declared.code.Instr.{Instr}
use Rattle.setl_code.specs.declared.code.Instr.TheVariants as i
use Rattle.setl_code.specs.declared.code.Step.{Step}
use Rattle.setl_code.specs.declared.code.Body.{Body}
use Rattle.setl_code.specs.Plain.{own_variables, variable_at, plain_body}
use Rattle.setl_code.specs.MayRun.{StepsFit, Differ}
use Rattle.setl_code_marked.specs.Marked.{MarksBody}
use Rattle.setl_code.specs.Sound.{is_back, may_take}
use Rattle.setl_live_reads.specs.declared.node.Access.{Access}
use Rattle.setl_live_reads.specs.declared.node.Access.TheVariants.{Nothing, Read, Write, HandBack}
use Rattle.setl_live_reads.specs.declared.node.Way.{Way}
use Rattle.setl_live_reads.specs.declared.node.Way.TheVariants.{On, To, Either, Nowhere}
use Rattle.setl_live_reads.specs.declared.node.Node.{Node}

abbrev pub reads_at : Slot → Access
reads_at (slot.Global k) = Nothing
reads_at (slot.Own k) = Read k

abbrev pub writes_at : Slot → Access
writes_at (slot.Global k) = Nothing
writes_at (slot.Own k) = Write k

abbrev pub access : Instr → Access
access (i.Load x) = reads_at x
access (i.Take x) = reads_at x
access (i.Store x) = writes_at x
access (i.Alter a x bs) = reads_at x
access i.Return = HandBack
access what = Nothing

abbrev pub way : Instr → Way
way (i.Decide k to) = Either to
way (i.Unless to) = Either to
way (i.Next to) = Either to
way (i.Jump to) = To to
way i.Return = Nowhere
way i.Back = Nowhere
way i.Stop = Nowhere
way what = On

abbrev pub node : Step → Node
node s = record { access = access s.what; way = way s.what }

-- which parameters are handed back
abbrev pub handed : List Param → List Bool
handed ps = map (λ p. is_back p.passing) ps

-- the table tells which own slots of a body may not be taken
abbrev pub MayTake : List Variable → ℕ → Body → List Bool → Type 0
MayTake declared n b refused = (k : ℕ) → k < length (own_variables n b.parameters b.names) → not (get_or refused k false) ≡ may_take declared (variable_at (own_variables n b.parameters b.names) k)

-- a load whose slot isn't read later becomes a take, where the slot may be taken
abbrev pub marked : Bool → List Bool → Instr → Instr
marked last refused (i.Load (slot.Own k)) = cond (last && not (get_or refused k false)) (i.Take (slot.Own k)) (i.Load (slot.Own k))
marked last refused what = what

abbrev pub marked_step : Bool → List Bool → Step → Step
marked_step last refused s = record { line = s.line; what = marked last refused s.what }

-- the own slot that is loaded, if one is
abbrev pub own_load : Instr → Option ℕ
own_load (i.Load (slot.Own k)) = Some k
own_load what = None

-- each step is marked
abbrev pub AllMarked : List Bool → List Bool → List Step → List Step → Type 0
AllMarked marks refused before after = (at : ℕ) → slice_get after at ≡ option_map (marked_step (get_or marks at false) refused) (slice_get before at)

-- ---- bodies

-- A body and what became of it, where these own slots may not be taken.
pub record BodyMarked (refused : List Bool) (b d : Body) : Type 0 where
  pub parameters : d.parameters ≡ b.parameters
  pub names : d.names ≡ b.names
  pub fits : (g : ℕ) → StepsFit g (length b.parameters + length b.names) b.steps → StepsFit g (length b.parameters + length b.names) d.steps
  pub marked : (declared : List Variable) (vars : List (List ℕ)) (n : ℕ) → Differ (own_variables n b.parameters b.names) → StepsFit (length vars) (length b.parameters + length b.names) b.steps → MayTake declared n b refused → MarksBody declared n (plain_body (map Global vars) n b) (plain_body (map Global vars) n d)

-- the slots that may not be taken in the body of this number
abbrev pub refused_in : List Bool → ℕ → List Bool
refused_in table zero = table
refused_in table (suc n) = []

abbrev pub BodyBecomes : List Bool → Option Body → Option Body → Type 0
BodyBecomes refused None None = Unit {0}
BodyBecomes refused (Some b) (Some d) = BodyMarked refused b d
BodyBecomes refused b d = ⊥
