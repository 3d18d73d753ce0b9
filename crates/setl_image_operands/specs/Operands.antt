-- What instructions do with operands, and tables of shapes for the steps of a body.
use Rattle.std.specs.Prelude.{◌≡◌, ℕ, suc, List, [], length, slice_get, Option, Some, None, Bool, true, false}
use Rattle.setl_code.specs.declared.code.Instr.{Instr}
use Rattle.setl_code.specs.declared.code.Instr.TheVariants as i
use Rattle.setl_code.specs.declared.code.Alteration.{Alteration}
use Rattle.setl_code.specs.declared.code.Alteration.TheVariants as alteration
use Rattle.setl_code.specs.declared.code.Begin.{Begin}
use Rattle.setl_code.specs.declared.code.Begin.TheVariants as begin
use Rattle.setl_code.specs.declared.code.Step.{Step}
use Rattle.setl_code.specs.Code as plain
use Rattle.setl_code.specs.Piece.{Is}
use Rattle.setl_code.specs.Shapes.{Shape, handed, outs}
use Rattle.setl_code.specs.Sound.{Table, shape_at, is_fine}
use Rattle.setl_image_shapes.specs.declared.stacks.Kind.{Kind}
use Rattle.setl_image_shapes.specs.declared.stacks.Kind.TheVariants as kind
use Rattle.setl_image_shapes.specs.declared.effect.Effect.{Effect}
use Rattle.setl_image_shapes.specs.declared.effect.Effect.TheVariants as e
use Rattle.setl_image_operands.specs.declared.shapes.Signature.{Signature}

-- how many results a call pops, and how many parameters are handed back
abbrev pub signature_of : plain.Body → Signature
signature_of b = record { popped = length b.parameters; back = handed b.parameters }

abbrev pub iterator_of : Begin → Kind
iterator_of (begin.Members k) = kind.Iterator
iterator_of begin.Points = kind.PairIterator

abbrev pub alter_effect : Alteration → ℕ → Effect
alter_effect alteration.Put n = e.Puts n
alter_effect (alteration.Combine o) n = e.Puts n
alter_effect (alteration.TakeOut k) n = e.Results n 1

abbrev pub call_effect : Option Signature → Effect
call_effect None = e.Lacks
call_effect (Some c) = e.Calls c.popped c.back

-- what an instruction does, where bodies have these signatures
abbrev pub effect_of : List Signature → Instr → Effect
effect_of calls (i.Store x) = e.Results 1 0
effect_of calls (i.Operate o n) = e.Results n 1
effect_of calls (i.Alter a x bs) = alter_effect a (length bs)
effect_of calls (i.Decide k to) = e.Decides to
effect_of calls i.TestTruth = e.Results 1 1
effect_of calls (i.Unless to) = e.Tests to
effect_of calls (i.Jump to) = e.Jumps to
effect_of calls i.Discard = e.Results 1 0
effect_of calls i.Duplicate = e.Results 1 2
effect_of calls (i.Parts n) = e.Results 1 n
effect_of calls (i.Begin k n) = e.Begins n (iterator_of k)
effect_of calls (i.Next to) = e.Next to
effect_of calls (i.Collect k) = e.Begins 0 kind.Collection
effect_of calls (i.Add n) = e.Adds n
effect_of calls (i.Leave n) = e.Leaves n
effect_of calls i.Round = e.Results 0 0
effect_of calls (i.Call n) = call_effect (slice_get calls n)
effect_of calls i.Return = e.Ends 1
effect_of calls i.Back = e.Ends 0
effect_of calls i.Forget = e.Results 0 0
effect_of calls (i.Print n) = e.Results n 0
effect_of calls i.Stop = e.Ends 0
effect_of calls what = e.Results 0 1

abbrev pub effect_at : List Signature → Step → Effect
effect_at calls s = effect_of calls s.what

-- A table of shapes that each step of a body keeps, as sound code has it, `SoundBody`.
pub record KeepsShapes (bodies : List plain.Body) (steps : List plain.Step) (table : Table) : Type 0 where
  pub whole : length table ≡ length steps
  pub starts : shape_at table 0 ≡ Some []
  pub fine : (at line : ℕ) (i : plain.Instr) (s : Shape) → Is steps at line i → shape_at table at ≡ Some s → is_fine table (outs bodies i (suc at) s) ≡ true

-- there is a table, or there is none
abbrev pub HasShapes : Bool → List plain.Body → List plain.Step → Type 0
HasShapes true bodies steps = (table : Table) × KeepsShapes bodies steps table
HasShapes false bodies steps = (table : Table) → KeepsShapes bodies steps table → ⊥
