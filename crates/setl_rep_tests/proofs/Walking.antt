-- Operands, and a walk over a set.
use Rattle.std.proofs.Common.{◌≡◌, List, [], ◌∷◌, Option, None, Some, ap, sym, subst}
use Rattle.std.specs.Option.{is_some}
use Rattle.setl_base.specs.Base.{IsLiving}
use Rattle.setl_base.specs.declared.Elt.{Elt}
use Rattle.setl_rep_bases.specs.Bases.{BasesState, base_at}
use Rattle.setl_rep_forms.specs.declared.held.Held.{Held}
use Rattle.setl_rep_forms.specs.Form.{Form, om, plain, element, numbers, table, handles}
use Rattle.setl_rep_kernels.specs.Kernels.{IsAfter, IsStepOf}
use Rattle.setl_rep_plain.specs.Standing.{IsHeldOver}
use Rattle.setl_rep.specs.Standing.{AreHeldOver}

pub one_over : (bs : BasesState) (h : Held) (hs : List Held) → hs ≡ h ∷ [] → IsHeldOver bs h → AreHeldOver bs hs
one_over bs h hs e o = subst (λ l. AreHeldOver bs l) (sym e) (o, tt)

pub two_over : (bs : BasesState) (a b : Held) (hs : List Held) → hs ≡ a ∷ b ∷ [] → IsHeldOver bs a → IsHeldOver bs b → AreHeldOver bs hs
two_over bs a b hs e o p = subst (λ l. AreHeldOver bs l) (sym e) (o, (p, tt))

pub starts : (bs : BasesState) (f : Form) → IsAfter bs f None
starts bs (numbers k b ns) = λ x e. absurd (cc)
starts bs om = tt
starts bs (plain d) = tt
starts bs (element b e) = tt
starts bs (table k b many es) = tt
starts bs (handles b es) = tt

pub goes_on : (bs : BasesState) (f : Form) (after : Option Elt) (e : Elt) → IsStepOf bs f after (Some e) → IsAfter bs f (Some e)
goes_on bs (numbers k b ns) after e h = λ x p. subst (λ g. IsLiving (base_at bs b) g) (same e x p) (ap is_some h.1)
  where
    same : (x y : Elt) → Some x ≡ Some y → x ≡ y
    same x y q = cc
goes_on bs om after e h = absurd h
goes_on bs (plain d) after e h = absurd h
goes_on bs (element b c) after e h = absurd h
goes_on bs (table k b many es) after e h = absurd h
goes_on bs (handles b es) after e h = absurd h
