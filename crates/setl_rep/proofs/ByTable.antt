-- A map as a table, at a point that is held plain or as an element.
use Rattle.std.proofs.Common.{◌≡◌, ◌∙◌, true, [], ◌∷◌, Option, None, Some, IsSome, refl, ap}
use Rattle.std.proofs.lemmas.Bool.{false≢true}
use Rattle.setl_value.specs.Datum.{Datum}
use Rattle.setl_base.specs.Base.{value_of}
use Rattle.setl_operators_table.specs.declared.Operator.TheVariants.{Lessf}
use Rattle.setl_operators_table.specs.Operators.{op_of}
use Rattle.setl_rep_bases.specs.Bases.{BasesState, base_at}
use Rattle.setl_rep_forms.specs.Form.{Form, om, plain, element, numbers, table, handles}
use Rattle.setl_rep_forms.specs.Stands.{stands, IsOver}
use Rattle.setl_rep_kernels.specs.Kernels.{is_single}
use Rattle.setl_rep.specs.ByTable.{IsLessAt, IsPointLess}

-- a point that is held so stands for a value
record HasValue (bs : BasesState) (x : Form) : Type 0 where
  value : Datum
  stood : stands bs x ≡ Some value

of_single : (bs : BasesState) (x : Form) → is_single x ≡ true → IsOver bs x → HasValue bs x
of_single bs (plain d) s o = record { value = d; stood = refl }
of_single bs (element b e) s o = by (value_of (base_at bs b) e) refl o.1
  where
    by : (v : Option Datum) → value_of (base_at bs b) e ≡ v → IsSome v → HasValue bs (element b e)
    by None q h = let no : ⊥ = cc in absurd no
    by (Some d) q h = record { value = d; stood = q }
of_single bs om s o = absurd (false≢true s)
of_single bs (numbers k b ns) s o = absurd (false≢true s)
of_single bs (table k b many es) s o = absurd (false≢true s)
of_single bs (handles b es) s o = absurd (false≢true s)

pub is_less : (bs : BasesState) (f x g : Form) → is_single x ≡ true → IsOver bs x → IsPointLess bs f x g → IsLessAt bs f x g
is_less bs f x g s o less =
    let v = of_single bs x s o in
    let w = less v.value v.stood in
    record {
      value = λ left. ap (λ d. op_of Lessf (stands bs f ∷ d ∷ []) left) v.stood ∙ w.value left;
      over = w.over;
      alike = w.alike;
    }
