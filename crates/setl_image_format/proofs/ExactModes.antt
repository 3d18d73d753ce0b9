-- The codec of modes is exact.
use Rattle.std.proofs.Common.{◌≡◌, ℕ, zero, suc, ◌+◌, List, [], ◌∷◌, slice_get, Option, Some, None, refl, sym, ap, ◌∙◌, subst, arith}
use Rattle.std.specs.Bool.{⊤}
use Rattle.std.specs.Prelude.{option_map}
use Rattle.std.proofs.lemmas.Option.{same_Some, none-some}
use Rattle.setl_modes.specs.declared.mode.Form.{Form}
use Rattle.setl_modes.specs.declared.mode.Form.TheVariants.{Plain, Local, Remote, Sparse}
use Rattle.setl_modes.specs.Modes.{Mode, General, Integers, Strings, Booleans, Atoms, Elements, Sets, Tuples, SingleMaps, MultiMaps}
use Rattle.setl_image_format.specs.declared.kinds.Kind.{Kind}
use Rattle.setl_image_format.specs.declared.kinds.Kind.TheVariants as k
use Rattle.setl_image_codec.specs.Codec.{Codec, IsExact, pair}
use Rattle.setl_image_codec.specs.Numbers.{number}
use Rattle.setl_image_format.proofs.Combined.{always_exact, never_exact, followed_exact, through_exact, tagged_exact}
use Rattle.setl_image_format.proofs.Exact.{the_number}
use Rattle.setl_image_format.specs.ModeCodec.{form_place, a_form, built, kinds, mode_tag, base_in, form_in, first_in, second_in, parts_of, mode_behind, mode_of_parts, inner_of, mode}
use Rattle.setl_image_format.proofs.ExactSteps.{placed_exact}

the_form : IsExact a_form
the_form = placed_exact form_place (Plain ∷ Local ∷ Remote ∷ Sparse ∷ []) (refl, (refl, (refl, (refl, tt))))

-- what is made has the parts that it was made of
pub built_exact : {A B : Type 0} (parts : A → B) (make : B → Option A) (c : Codec B) → ((b : B) (a : A) → make b ≡ Some a → b ≡ parts a) → IsExact c → IsExact (built parts make c)
built_exact parts make c same inner = through_exact parts (λ a. make (parts a) ≡ Some a) make c (record {
  back = λ a ok. ok;
  made = λ b a fits is. let e = same b a is in (subst (λ t. make t ≡ Some a) e is, e);
}) inner

-- ---- the table

IsKind : ℕ → Kind → Type 0
IsKind b k.General = b ≡ 0
IsKind b k.Int = b ≡ 1
IsKind b k.Str = b ≡ 2
IsKind b k.Boolean = b ≡ 3
IsKind b k.Atom = b ≡ 4
IsKind b k.Elmt = b ≡ 5
IsKind b k.Set = b ≡ 6
IsKind b k.Tuple = b ≡ 7
IsKind b k.Smap = b ≡ 8
IsKind b k.Mmap = b ≡ 9

Kinds : ℕ → List Kind → Type 0
Kinds n [] = ⊤
Kinds n (x ∷ xs) = IsKind n x × Kinds (suc n) xs

kind_found : (n : ℕ) (ks : List Kind) (b : ℕ) (x : Kind) → Kinds n ks → slice_get ks b ≡ Some x → IsKind (n + b) x
unfolding Kinds
kind_found n [] b x are is = absurd (none-some x is)
kind_found n (y ∷ ys) zero x are is = let first : n ≡ n + 0 = omega arith in subst (λ t. IsKind t x) first (subst (IsKind n) (same_Some y x is) are.0)
kind_found n (y ∷ ys) (suc b) x are is = let next : suc n + b ≡ n + suc b = omega arith in subst (λ t. IsKind t x) next (kind_found (suc n) ys b x are.1 is)

kinds_placed : Kinds 0 kinds
unfolding Kinds IsKind
kinds_placed = (refl, (refl, (refl, (refl, (refl, (refl, (refl, (refl, (refl, (refl, tt))))))))))

kind_is : (b : ℕ) (x : Kind) → slice_get kinds b ≡ Some x → IsKind b x
kind_is b x is = let start : 0 + b ≡ b = omega arith in subst (λ t. IsKind t x) start (kind_found 0 kinds b x kinds_placed is)

-- ---- modes

base_same : (o : Option Mode) (k : ℕ) (m : Mode) → option_map (Elements k) o ≡ Some m → k ≡ base_in m
base_same None k m is = absurd (none-some m is)
base_same (Some n) k m is = ap base_in (same_Some (Elements k n) m is)

base_tag : (o : Option Mode) (k : ℕ) (m : Mode) → option_map (Elements k) o ≡ Some m → 5 ≡ mode_tag m
base_tag None k m is = absurd (none-some m is)
base_tag (Some n) k m is = ap mode_tag (same_Some (Elements k n) m is)

parts_exact : (bases : List Mode) (inner : Codec Mode) (x : Kind) → IsExact inner → IsExact (parts_of bases inner x)
parts_exact bases inner k.General exact = always_exact General
parts_exact bases inner k.Int exact = always_exact Integers
parts_exact bases inner k.Str exact = always_exact Strings
parts_exact bases inner k.Boolean exact = always_exact Booleans
parts_exact bases inner k.Atom exact = always_exact Atoms
parts_exact bases inner k.Elmt exact = built_exact base_in (λ n. option_map (Elements n) (slice_get bases n)) number (λ n m is. base_same (slice_get bases n) n m is) the_number
parts_exact bases inner k.Set exact = built_exact {B = Form × Mode} (λ m. (form_in m, first_in m)) (λ x. Some (Sets x.0 x.1)) (pair a_form inner)
    (λ x m is. ap {B = Form × Mode} (λ t. (form_in t, first_in t)) (same_Some (Sets x.0 x.1) m is)) (followed_exact a_form (λ f. inner) the_form (λ f. exact))
parts_exact bases inner k.Tuple exact = built_exact first_in (λ x. Some (Tuples x)) inner (λ x m is. ap first_in (same_Some (Tuples x) m is)) exact
parts_exact bases inner k.Smap exact = built_exact {B = Form × (Mode × Mode)} (λ m. (form_in m, (first_in m, second_in m))) (λ x. Some (SingleMaps x.0 x.1.0 x.1.1)) (pair a_form (pair inner inner))
    (λ x m is. ap {B = Form × (Mode × Mode)} (λ t. (form_in t, (first_in t, second_in t))) (same_Some (SingleMaps x.0 x.1.0 x.1.1) m is))
    (followed_exact a_form (λ f. pair inner inner) the_form (λ f. followed_exact inner (λ d. inner) exact (λ d. exact)))
parts_exact bases inner k.Mmap exact = built_exact {B = Form × (Mode × Mode)} (λ m. (form_in m, (first_in m, second_in m))) (λ x. Some (MultiMaps x.0 x.1.0 x.1.1)) (pair a_form (pair inner inner))
    (λ x m is. ap {B = Form × (Mode × Mode)} (λ t. (form_in t, (first_in t, second_in t))) (same_Some (MultiMaps x.0 x.1.0 x.1.1) m is))
    (followed_exact a_form (λ f. pair inner inner) the_form (λ f. followed_exact inner (λ d. inner) exact (λ d. exact)))

parts_tag : (bases : List Mode) (inner : Codec Mode) (b : ℕ) (x : Kind) (m : Mode) → IsKind b x → (parts_of bases inner x).Fits m → b ≡ mode_tag m
unfolding IsKind
parts_tag bases inner b k.General m row fits = row ∙ ap mode_tag (sym fits)
parts_tag bases inner b k.Int m row fits = row ∙ ap mode_tag (sym fits)
parts_tag bases inner b k.Str m row fits = row ∙ ap mode_tag (sym fits)
parts_tag bases inner b k.Boolean m row fits = row ∙ ap mode_tag (sym fits)
parts_tag bases inner b k.Atom m row fits = row ∙ ap mode_tag (sym fits)
parts_tag bases inner b k.Elmt m row fits = row ∙ base_tag (slice_get bases (base_in m)) (base_in m) m fits.0
parts_tag bases inner b k.Set m row fits = row ∙ ap mode_tag (same_Some (Sets (form_in m) (first_in m)) m fits.0)
parts_tag bases inner b k.Tuple m row fits = row ∙ ap mode_tag (same_Some (Tuples (first_in m)) m fits.0)
parts_tag bases inner b k.Smap m row fits = row ∙ ap mode_tag (same_Some (SingleMaps (form_in m) (first_in m) (second_in m)) m fits.0)
parts_tag bases inner b k.Mmap m row fits = row ∙ ap mode_tag (same_Some (MultiMaps (form_in m) (first_in m) (second_in m)) m fits.0)

behind_exact : (bases : List Mode) (inner : Codec Mode) (o : Option Kind) → IsExact inner → IsExact (mode_behind bases inner o)
behind_exact bases inner None exact = never_exact
behind_exact bases inner (Some x) exact = parts_exact bases inner x exact

behind_tag : (bases : List Mode) (inner : Codec Mode) (b : ℕ) (o : Option Kind) (m : Mode) → slice_get kinds b ≡ o → (mode_behind bases inner o).Fits m → b ≡ mode_tag m
behind_tag bases inner b None m is fits = absurd fits
behind_tag bases inner b (Some x) m is fits = parts_tag bases inner b x m (kind_is b x is) fits

parts_mode_exact : (bases : List Mode) (inner : Codec Mode) → IsExact inner → IsExact (mode_of_parts bases inner)
parts_mode_exact bases inner exact = tagged_exact mode_tag (λ b. mode_behind bases inner (slice_get kinds b))
    (λ b m fits. behind_tag bases inner b (slice_get kinds b) m refl fits)
    (λ b. behind_exact bases inner (slice_get kinds b) exact)

inner_exact : (left : ℕ) (bases : List Mode) → IsExact (inner_of left bases)
inner_exact zero bases = never_exact
inner_exact (suc left) bases = parts_mode_exact bases (inner_of left bases) (inner_exact left bases)

pub mode_exact : (bases : List Mode) → IsExact (mode bases)
mode_exact bases = parts_mode_exact bases (inner_of 200 bases) (inner_exact 200 bases)
