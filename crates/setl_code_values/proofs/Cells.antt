-- Cells, operands and texts that stand.
use Rattle.std.specs.Prelude.{ℕ, zero, suc, ◌<◌, Bool, true, false, List, [], ◌∷◌, cond, map, slice_get, Option, Some, None}
use Rattle.std.specs.List.{AllByRecursion}
use Rattle.std.proofs.Common.{arith}
use Rattle.setl_value.specs.Datum.{Datum}
use Rattle.setl_value.specs.WellFormed.{IsTextByte}
use Rattle.setl_text.specs.Texts.{spaced, argument_text, print_line}
use Rattle.setl_operators_laws.specs.Lists.{OfSome, all_append, all_weaker, all_map}
use Rattle.setl_operators_laws.specs.Texts.{IsPlain, plain_byte, plain_spaced, whole_text_is_plain}
use Rattle.setl_operators_laws.specs.ValueLaws.{IsValueOrOm}
use Rattle.setl_model_runs.specs.Variable.{Variable, Global, Own, Bound, is_variable}
use Rattle.setl_model_values.specs.ModelValues.{AreBytes, CollectionsAreValues}
use Rattle.setl_code.specs.Code.{Body}
use Rattle.setl_code.specs.CodeCore.{Held, Cells, held_in, with_held, cleared, variables_of, Operand, Result, Iterator, PairIterator, Collecting, value_of, Popped, Pops, Lacks, pop_before, popped, CodeCore, held, write}
use Rattle.setl_code.specs.CodeMeans.{main_slots}
use Rattle.setl_code_values.specs.Laws.{StartsStand}
use Rattle.setl_code_values.specs.Standing.{HeldStands, CellsStand, OperandStands, OperandsStand, CoreStands}

pub cleared_stand : (xs : List Variable) → CellsStand (cleared xs)
cleared_stand [] = tt
cleared_stand (x ∷ xs) = (tt, cleared_stand xs)

main_stand : (b : Option Body) → CellsStand (main_slots b)
main_stand None = tt
main_stand (Some b) = cleared_stand (variables_of 0 b)

pub starts_stand : StartsStand
starts_stand c input turns a l = ((cleared_stand c.vars, (main_stand (slice_get c.bodies 0), tt), tt, tt, (a, omega (arith, l))), tt, tt)

with_held_stand : (cells : Cells) (x : Variable) (h : Held) → CellsStand cells → HeldStands h → CellsStand (with_held cells x h)
with_held_stand [] x h f g = (g, tt)
with_held_stand (c ∷ cs) x h f g = go (is_variable c.0 x) (with_held_stand cs x h f.1 g)
  where
    go : (b : Bool) → CellsStand (with_held cs x h) → CellsStand (cond b ((x, h) ∷ cs) (c ∷ with_held cs x h))
    go true r = (g, f.1)
    go false r = (f.0, r)

pub write_stands : (x : Variable) (h : Held) (k : CodeCore) → CoreStands k → HeldStands h → CoreStands (write x h k)
write_stands (Global name) h k f g = (with_held_stand k.globals (Global name) h f.0 g, f.1, f.2, f.3, f.4)
write_stands (Own body name) h k f g = (f.0, (with_held_stand k.now.own (Own body name) h f.1.0 g, f.1.1), f.2, f.3, f.4)
write_stands (Bound former name) h k f g = (f.0, (with_held_stand k.now.own (Bound former name) h f.1.0 g, f.1.1), f.2, f.3, f.4)

pub held_in_stands : (cells : Cells) (x : Variable) → CellsStand cells → HeldStands (held_in cells x)
held_in_stands [] x f = tt
held_in_stands (c ∷ cs) x f = go (is_variable c.0 x) (held_in_stands cs x f.1)
  where
    go : (b : Bool) → HeldStands (held_in cs x) → HeldStands (cond b c.1 (held_in cs x))
    go true r = f.0
    go false r = r

pub held_stands : (x : Variable) (k : CodeCore) → CoreStands k → HeldStands (held x k)
held_stands (Global name) k f = held_in_stands k.globals (Global name) f.0
held_stands (Own body name) k f = held_in_stands k.now.own (Own body name) f.1.0
held_stands (Bound former name) k f = held_in_stands k.now.own (Bound former name) f.1.0

-- ---- operands

pub operand_value : CollectionsAreValues → (o : Operand) → OperandStands o → OfSome IsValueOrOm (value_of o)
operand_value law (Result v) h = h
operand_value law (Iterator items) h = tt
operand_value law (PairIterator items) h = tt
operand_value law (Collecting k got) h = law k got h

abbrev pub PoppedStands : Popped → Type 0
PoppedStands (Pops vs rest) = AllByRecursion IsValueOrOm vs × OperandsStand rest
PoppedStands Lacks = Unit {0}

before_stands : (o : Option (Option Datum)) (f : Option Datum → Popped) → OfSome IsValueOrOm o → ((v : Option Datum) → IsValueOrOm v → PoppedStands (f v)) → PoppedStands (pop_before o f)
before_stands None f h s = tt
before_stands (Some v) f h s = s v h

pub popped_stands : CollectionsAreValues → (n : ℕ) (vs : List (Option Datum)) (xs : List Operand) → AllByRecursion IsValueOrOm vs → OperandsStand xs → PoppedStands (popped n vs xs)
popped_stands law zero vs xs a b = (a, b)
popped_stands law (suc n) vs [] a b = tt
popped_stands law (suc n) vs (o ∷ xs) a b = before_stands (value_of o) (λ v. popped n (v ∷ vs) xs) (operand_value law o b.0) (λ v h. popped_stands law n (v ∷ vs) xs (h, a) b.1)

-- ---- printing

argument_plain : (v : Option Datum) → IsValueOrOm v → IsPlain (argument_text v)
argument_plain None h = (plain_byte 42 (omega arith) (omega arith), tt)
argument_plain (Some d) h = whole_text_is_plain d h

pub line_bytes : (vs : List (Option Datum)) → AllByRecursion IsValueOrOm vs → AreBytes (print_line vs)
line_bytes vs a =
    let texts = spaced (map argument_text vs) in
    all_append (λ b. b < 256) texts (10 ∷ []) (all_weaker IsTextByte (λ b. b < 256) texts (λ b h. h.0) (plain_spaced (map argument_text vs) (all_map IsValueOrOm IsPlain argument_text vs argument_plain a))) (omega arith, tt)
