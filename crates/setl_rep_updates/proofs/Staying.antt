-- Values stay in the forms of their modes as bases are lengthened.
use Rattle.std.proofs.Common.{◌≡◌, ◌∙◌, ℕ, zero, suc, ◌+◌, Bool, true, false, List, [], ◌∷◌, slice_get, Option, None, Some, IsSome, refl, sym, ap, subst}
use Rattle.std.specs.Bool.{if◌then◌else◌}
use Rattle.std.specs.Ordering.{is_eq}
use Rattle.std.proofs.lemmas.Bool.{false≢true}
use Rattle.setl_value.specs.Datum.{Datum}
use Rattle.setl_value.specs.Order.{datum_cmp}
use Rattle.setl_modes.specs.Fits.{fits}
use Rattle.setl_modes.specs.Modes.{Mode}
use Rattle.setl_base.specs.Base.{BaseState, Member, handle, member_at, find_from, find}
use Rattle.setl_rep_bases.specs.BaseId.{id, main}
use Rattle.setl_rep_bases.specs.Bases.{BasesState, base_at, is_there, named, IsThere}
use Rattle.setl_rep_bases.specs.Keeping.{AreKept}
use Rattle.setl_rep_forms.specs.Form.{Form}
use Rattle.setl_rep_forms.specs.Stands.{stands, IsOver}
use Rattle.setl_rep_forms.specs.Laws.{FormsStay}
use Rattle.setl_rep_building.specs.HasForm.{HasFormOrOm}
use Rattle.setl_rep_entering.specs.Laws.{NamesStay, BlocksAreKept}
use Rattle.setl_rep_updates.specs.InForm.{IsInForm, IsValueOrOm, ArePlacesFound, FormsOfMainStay, FormsOfModesStay}

-- ---- members of bases that grow

abbrev IsAmong : List Member → Datum → Type 0
IsAmong ms x = (j : ℕ) × (m : Member) × (slice_get ms j ≡ Some m) × (is_eq (datum_cmp x m.value) ≡ true)

found_among : (k : ℕ) (ms : List Member) (x : Datum) → IsSome (find_from k ms x) → IsAmong ms x
found_among k [] x s = absurd (false≢true s)
found_among k (m ∷ ms) x s = by (is_eq (datum_cmp x m.value)) refl s (found_among (k + 1) ms x)
  where
    by : (t : Bool) → is_eq (datum_cmp x m.value) ≡ t → IsSome (if t then Some (handle k m) else find_from (k + 1) ms x) → (IsSome (find_from (k + 1) ms x) → IsAmong ms x) → IsAmong (m ∷ ms) x
    by true e s rest = (0, m, refl, e)
    by false e s rest = let r = rest s in (suc r.0, r.1, r.2, r.3)

among_found : (k : ℕ) (ms : List Member) (x : Datum) (j : ℕ) (m : Member) → slice_get ms j ≡ Some m → is_eq (datum_cmp x m.value) ≡ true → IsSome (find_from k ms x)
among_found k [] x j m e s = let no : ⊥ = cc in absurd no
among_found k (n ∷ ms) x j m e s = by (is_eq (datum_cmp x n.value)) refl j e (λ i q. among_found (k + 1) ms x i m q s)
  where
    by : (t : Bool) → is_eq (datum_cmp x n.value) ≡ t → (j : ℕ) → slice_get (n ∷ ms) j ≡ Some m → ((i : ℕ) → slice_get ms i ≡ Some m → IsSome (find_from (k + 1) ms x)) → IsSome (if t then Some (handle k n) else find_from (k + 1) ms x)
    by true q j e rest = refl
    by false q zero e rest = let same : n ≡ m = cc in absurd (false≢true (sym q ∙ ap (λ z. is_eq (datum_cmp x z.value)) same ∙ s))
    by false q (suc i) e rest = rest i e

found_stays : (b c : BaseState) → ((n : ℕ) (m : Member) → member_at b n ≡ Some m → member_at c n ≡ Some m) → (x : Datum) → IsSome (find b x) → IsSome (find c x)
found_stays b c kept x s = let r = found_among 1 b.members x s in among_found 1 c.members x r.0 r.1 (kept (suc r.0) r.1 r.2) r.3

-- ---- the laws

stays_over : FormsStay → (m : Mode) (n : ℕ) (bs cs : BasesState) (f : Form) → AreKept bs cs → ((b : ℕ) → named cs n b ≡ named bs n b) → IsInForm bs n m f → IsInForm cs n m f × (stands cs f ≡ stands bs f)
stays_over forms_stay m n bs cs f kept names_same h = (
  record {
    there = λ b e. subst (IsThere cs) (sym (names_same b)) (kept.there (named bs n b) (h.there b e));
    over = stay.0;
    form = subst (λ name. HasFormOrOm name m f) (sym same_names) h.form;
    fits = ap (λ v. fits m v) stay.1 ∙ h.fits;
    value = subst IsValueOrOm (sym stay.1) h.value;
    found = subst (λ v. ArePlacesFound cs n m v) (sym stay.1) (all_found (stands bs f) h.found);
  },
  stay.1,
)
  where
    stay : IsOver cs f × (stands cs f ≡ stands bs f)
    stay = forms_stay bs cs f kept h.over

    same_names : named cs n ≡ named bs n
    same_names = λ j b. names_same b j

    all_found : (v : Option Datum) → ArePlacesFound bs n m v → ArePlacesFound cs n m v
    all_found None a = tt
    all_found (Some d) a = λ b x e. subst (λ q. IsSome (find (base_at cs q) x)) (sym (names_same b)) (found_stays (base_at bs (named bs n b)) (base_at cs (named bs n b)) (kept.members (named bs n b)) x (a b x e))

pub forms_of_modes_stay : FormsStay → NamesStay → BlocksAreKept → FormsOfModesStay
forms_of_modes_stay forms_stay names_stay blocks_kept m k d n i bs cs f l h = (stays_over forms_stay m n bs cs f (blocks_kept k d i bs cs l) (λ b. names_stay k d i bs cs l n b) h).0

-- the main program's bases are named alike everywhere
named_main : (bs : BasesState) (b : ℕ) → named bs 0 b ≡ main b
named_main bs b = by (is_there bs (main b))
  where
    by : (t : Bool) → (if t then main b else id b 0) ≡ main b
    by true = refl
    by false = refl

pub forms_of_main_stay : FormsStay → FormsOfMainStay
forms_of_main_stay forms_stay m bs cs f kept h = stays_over forms_stay m 0 bs cs f kept (λ b. named_main cs b ∙ sym (named_main bs b)) h
