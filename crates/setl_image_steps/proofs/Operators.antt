-- Steps of the functions that read and write steps: operators have no operands in the bytes, but for the enumerations.
use Rattle.std.proofs.Common.{◌≡◌, ℕ, List, [], ◌∷◌, map, refl, ap}
use Rattle.setl_operators_table.specs.declared.Operator.{Operator}
use Rattle.setl_operators_table.specs.declared.Operator.TheVariants as o
use Rattle.setl_code.specs.declared.code.Instr.TheVariants as i
use Rattle.setl_image_format.specs.Table.{row_at, tag}
use Rattle.setl_image_format.specs.Steps.{behind}

-- items that stand for themselves
pub same_items : {A : Type 0} (xs : List A) → map (λ x. x) xs ≡ xs
same_items [] = refl
same_items (x ∷ xs) = ap (λ t. x ∷ t) (same_items xs)

pub operate_writes : (globals own : ℕ) (what : Operator) (n : ℕ) → (what ≡ o.SetOf → ⊥) → (what ≡ o.TupleOf → ⊥) → (behind globals own (row_at (tag (i.Operate what n)))).write (i.Operate what n) ≡ []
operate_writes globals own o.Negate n a b = refl
operate_writes globals own o.Abs n a b = refl
operate_writes globals own o.Even n a b = refl
operate_writes globals own o.Odd n a b = refl
operate_writes globals own o.Size n a b = refl
operate_writes globals own o.Not n a b = refl
operate_writes globals own o.Pow n a b = refl
operate_writes globals own o.Domain n a b = refl
operate_writes globals own o.Range n a b = refl
operate_writes globals own o.Arb n a b = refl
operate_writes globals own o.Str n a b = refl
operate_writes globals own o.IsInteger n a b = refl
operate_writes globals own o.IsString n a b = refl
operate_writes globals own o.IsBoolean n a b = refl
operate_writes globals own o.IsAtom n a b = refl
operate_writes globals own o.IsTuple n a b = refl
operate_writes globals own o.IsSet n a b = refl
operate_writes globals own o.IsMap n a b = refl
operate_writes globals own o.Add n a b = refl
operate_writes globals own o.Subtract n a b = refl
operate_writes globals own o.Multiply n a b = refl
operate_writes globals own o.Power n a b = refl
operate_writes globals own o.Divide n a b = refl
operate_writes globals own o.Modulo n a b = refl
operate_writes globals own o.Max n a b = refl
operate_writes globals own o.Min n a b = refl
operate_writes globals own o.With n a b = refl
operate_writes globals own o.Less n a b = refl
operate_writes globals own o.Lessf n a b = refl
operate_writes globals own o.Npow n a b = refl
operate_writes globals own o.Equal n a b = refl
operate_writes globals own o.NotEqual n a b = refl
operate_writes globals own o.Below n a b = refl
operate_writes globals own o.AtMost n a b = refl
operate_writes globals own o.Above n a b = refl
operate_writes globals own o.AtLeast n a b = refl
operate_writes globals own o.In n a b = refl
operate_writes globals own o.NotIn n a b = refl
operate_writes globals own o.Subset n a b = refl
operate_writes globals own o.Includes n a b = refl
operate_writes globals own o.Get n a b = refl
operate_writes globals own o.Images n a b = refl
operate_writes globals own o.Slice n a b = refl
operate_writes globals own o.Tail n a b = refl
operate_writes globals own o.FoldAdd n a b = refl
operate_writes globals own o.FoldMultiply n a b = refl
operate_writes globals own o.FoldMax n a b = refl
operate_writes globals own o.FoldMin n a b = refl
operate_writes globals own o.FoldAnd n a b = refl
operate_writes globals own o.FoldOr n a b = refl
operate_writes globals own o.SetRange n a b = refl
operate_writes globals own o.TupleRange n a b = refl
operate_writes globals own o.SetStep n a b = refl
operate_writes globals own o.TupleStep n a b = refl
operate_writes globals own o.Put n a b = refl
operate_writes globals own o.PutImages n a b = refl
operate_writes globals own o.SetOf n a b = absurd (a refl)
operate_writes globals own o.TupleOf n a b = absurd (b refl)
