-- The forms of the contents of a map, by their numbers.
use Rattle.std.proofs.Common.{◌≡◌, ◌∙◌, ℕ, ◌==◌, Bool, true, false, cond, Option, None, Some, refl, sym, ap, subst, eq-eqb, eqb-true}
use Rattle.setl_rep_forms.specs.Form.{Form, Entries, no_entry, entry_then}
use Rattle.setl_rep_tables.specs.Tables.{content_in, IsKeyed}
use Rattle.setl_rep_building.specs.HasForm.{HaveForms}

abbrev EachHas : (Form → Type 0) → Entries → Type 0
EachHas P es = (q : ℕ) (c : Form) → content_in es q ≡ Some c → P c

pub form_at : (P : Form → Type 0) (es : Entries) → HaveForms P es → EachHas P es
form_at P no_entry h q c e = let no : ⊥ = cc in absurd no
form_at P (entry_then k f es) h q c e = by (q == k) e (form_at P es h.1 q c)
  where
    by : (t : Bool) → cond t (Some f) (content_in es q) ≡ Some c → (content_in es q ≡ Some c → P c) → P c
    by true e rest = let same : f ≡ c = cc in subst P same h.0
    by false e rest = rest e

pub forms_from : (P : Form → Type 0) (es : Entries) → IsKeyed es → EachHas P es → HaveForms P es
forms_from P no_entry keyed h = tt
forms_from P (entry_then k f es) keyed h = (h k f (ap (λ t. cond t (Some f) (content_in es k)) (eq-eqb k k refl)), forms_from P es keyed.1 rest)
  where
    rest : EachHas P es
    rest q c e = by (q == k) refl
      where
        by : (t : Bool) → (q == k) ≡ t → P c
        by true s = let no : None ≡ Some c = sym keyed.0 ∙ ap (content_in es) (sym (eqb-true q k s)) ∙ e in let never : ⊥ = cc in absurd never
        by false s = h q c (ap (λ t. cond t (Some f) (content_in es q)) s ∙ e)

-- another content at one number, or none
pub form_put : (P : Form → Type 0) (n : ℕ) (o : Option Form) (es fs : Entries) → IsKeyed fs → ((f : Form) → o ≡ Some f → P f) → ((q : ℕ) → content_in fs q ≡ cond (n == q) o (content_in es q)) → HaveForms P es → HaveForms P fs
form_put P n o es fs keyed p put h = forms_from P fs keyed (λ q c e. by q c (n == q) (sym (put q) ∙ e))
  where
    by : (q : ℕ) (c : Form) (t : Bool) → cond t o (content_in es q) ≡ Some c → P c
    by q c true e = p c e
    by q c false e = form_at P es h q c e
