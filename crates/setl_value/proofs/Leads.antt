-- What tuples keep of their first components.
use Rattle.std.specs.Prelude.{◌≡◌, ℤ, int_lt, Bool, true, false, cond, map, FitsSigned, List, [], ◌∷◌, Option, Some, None, refl, slice_get}
use Rattle.std.specs.declared.cmp.Ordering.{Ordering}
use Rattle.std.specs.declared.cmp.Ordering.TheVariants.{Less, Equal, Greater}
use Rattle.std.specs.Ordering.{ordering_then, int_cmp, is_lt}
use Rattle.std.specs.Option.{option_cmp}
use Rattle.std.specs.Cmp.Lexicographic.{slice_cmp}
use Rattle.std.proofs.Common.{sym, subst, w32, to_z, of_z}
use Rattle.std.proofs.lemmas.Int.{to_z-of_z}
use Rattle.std.proofs.lemmas.Cmp.{int_ranked}
use Rattle.std.proofs.lemmas.Option.{none-some}
use Rattle.setl_value.specs.declared.Value.{Value}
use Rattle.setl_value.specs.Datum.{Datum, int}
use Rattle.setl_value.specs.code.DatumOf.{part}
use Rattle.setl_value.specs.code.Lead.{IsLead}
use Rattle.setl_value.specs.Order.{datum_cmp}

-- what was read of a list is kept of the list that it is
pub lead_kept : (n : ℤ) (xs ys : List (Option Value)) → FitsSigned w32 n → IsLead n (map part xs) → xs ≡ ys → IsLead (to_z w32 (of_z w32 n)) (map part ys)
lead_kept n xs ys f h e = subst (λ z. IsLead z (map part ys)) (sym (to_z-of_z w32 n f)) (subst (λ l. IsLead n (map part l)) e h)

-- ---- in the order

unequal_first : (o r : Ordering) → (o ≡ Equal → ⊥) → o ≡ ordering_then o r
unequal_first Less r h = refl
unequal_first Equal r h = absurd (h refl)
unequal_first Greater r h = refl

-- unlike first components decide
pub leads_decide : (ps qs : List (Option Datum)) (a b : ℤ) → slice_get ps 0 ≡ Some (Some (int a)) → slice_get qs 0 ≡ Some (Some (int b)) → (a ≡ b → ⊥)
    → int_cmp a b ≡ slice_cmp (option_cmp datum_cmp) ps qs
leads_decide [] qs a b f g h = absurd (none-some (Some (int a)) f)
leads_decide (p ∷ ps) [] a b f g h = absurd (none-some (Some (int b)) g)
leads_decide (p ∷ ps) (q ∷ qs) a b f g h =
    let same-p : p ≡ Some (int a) = cc in
    let same-q : q ≡ Some (int b) = cc in
    rw (same-p, same-q) (unequal_first (int_cmp a b) (slice_cmp (option_cmp datum_cmp) ps qs) (λ e. h (int_ranked a b Equal (sym e))))

pub int_is_lt : (a b : ℤ) → int_lt a b ≡ is_lt (int_cmp a b)
int_is_lt a b = go (int_lt a b) (int_lt b a)
  where
    go : (p q : Bool) → p ≡ is_lt (cond p Less (cond q Greater Equal))
    go true q = refl
    go false true = refl
    go false false = refl
