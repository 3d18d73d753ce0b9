-- Steps of the functions that read and write modes.
use Rattle.std.proofs.Common.{◌≡◌, ℕ, zero, suc, List, [], ◌∷◌, ◌++◌, map, slice_get, Some, None, refl, sym, ap, ◌∙◌}
use Rattle.std.specs.Prelude.{option_map}
use Rattle.std.proofs.lemmas.Option.{slice_get-map}
use Rattle.setl_modes.specs.declared.mode.NamedMode.{NamedMode}
use Rattle.setl_modes.specs.declared.mode.Mode.{Mode as ModeCode, fold-roll-Mode}
use Rattle.setl_modes.specs.declared.mode.Mode.TheOpen.{Mode-F}
use Rattle.setl_modes.specs.declared.mode.Mode.TheVariants as code
use Rattle.setl_modes.specs.Modes.{Mode, General, Integers, Strings, Booleans, Atoms, Elements, Sets, Tuples, SingleMaps, MultiMaps, mode_of}
use Rattle.std.proofs.lemmas.List.{append_assoc}
use Rattle.setl_modes.specs.declared.mode.ModeTable.{ModeTable}
use Rattle.setl_image_codec.specs.Codec.{never, pair}
use Rattle.setl_image_codec.specs.Numbers.{listed, number}
use Rattle.setl_image_codec.specs.Texts.{name, text}
use Rattle.setl_image_format.specs.declared.kinds.Kind.TheVariants as Kind
use Rattle.setl_image_format.specs.ImageCodec.{Named, section}
use Rattle.setl_image_format.specs.ModeCodec.{form_place, parts_of, mode_of_parts, inner_of, mode}
use Rattle.setl_image.specs.Views.{modes_of, named_of, table_of}
use Rattle.setl_image.specs.ModeText.{mode_text}

base_at : (bases : List NamedMode) (k : ℕ) → slice_get (modes_of bases) k ≡ option_map (λ (b : Named). b.1) (option_map named_of (slice_get bases k))
base_at bases k = rw (slice_get-map (λ (b : Named). b.1) (map named_of bases) k) (rw (slice_get-map named_of bases k) refl)

-- a base of this number gives the mode of its members
pub element_read : (bases : List NamedMode) (k : ℕ) (b : NamedMode) → slice_get bases k ≡ Some b → option_map (Elements k) (slice_get (modes_of bases) k) ≡ Some (Elements k (mode_of b.mode))
element_read bases k b is = rw (base_at bases k) (rw is refl)

-- `elmt` stands for the members of a base
pub of_elements : (k : ℕ) (m : ModeCode) → mode_of (code.Elmt k m) ≡ Elements k (mode_of m)
of_elements k m = ap mode_of (sym (code.rolls-Elmt k m)) ∙ fold-roll-Mode Mode _ (Mode-F.Elmt k m)

pub elements_read : (bases : List NamedMode) (bytes rest : List ℕ) (k : ℕ) (b : NamedMode) (m : Mode) → number.read bytes ≡ Some (k, rest) → slice_get bases k ≡ Some b → m ≡ mode_of b.mode → (parts_of (modes_of bases) never Kind.Elmt).read bytes ≡ Some (Elements k m, rest)
elements_read bases bytes rest k b m number_is is same = rw number_is (rw (element_read bases k b is) (ap (λ t. Some (Elements k t, rest)) (sym same)))

-- and none gives none
pub no_element : (bases : List NamedMode) (k : ℕ) → slice_get bases k ≡ None → option_map (Elements k) (slice_get (modes_of bases) k) ≡ None
no_element bases k is = rw (base_at bases k) (rw is refl)

both_written : {a b x y : List ℕ} → a ≡ x → b ≡ y → a ++ b ≡ x ++ y
both_written {a} {b} {x} {y} first second = ap (λ t. t ++ b) first ∙ ap (λ t. x ++ t) second

-- what is written of a mode that has a spelling rests on the mode alone
text_is_written : (left : ℕ) (bases : List Mode) (m : Mode) → (mode_of_parts bases (inner_of left bases)).Fits m → (mode_of_parts bases (inner_of left bases)).write m ≡ mode_text m
text_is_written left bases General fits = refl
text_is_written left bases Integers fits = refl
text_is_written left bases Strings fits = refl
text_is_written left bases Booleans fits = refl
text_is_written left bases Atoms fits = refl
text_is_written left bases (Elements k m) fits = refl
text_is_written zero bases (Sets f m) fits = absurd fits.1.1
text_is_written zero bases (Tuples m) fits = absurd fits.1
text_is_written zero bases (SingleMaps f d r) fits = absurd fits.1.1.0
text_is_written zero bases (MultiMaps f d s) fits = absurd fits.1.1.0
text_is_written (suc left) bases (Sets f m) fits = ap (λ t. 6 ∷ form_place f ∷ t) (text_is_written left bases m fits.1.1)
text_is_written (suc left) bases (Tuples m) fits = ap (λ t. 7 ∷ t) (text_is_written left bases m fits.1)
text_is_written (suc left) bases (SingleMaps f d r) fits = ap (λ t. 8 ∷ form_place f ∷ t) (both_written (text_is_written left bases d fits.1.1.0) (text_is_written left bases r fits.1.1.1))
text_is_written (suc left) bases (MultiMaps f d s) fits = ap (λ t. 9 ∷ form_place f ∷ t) (both_written (text_is_written left bases d fits.1.1.0) (text_is_written left bases s fits.1.1.1))

pub mode_is_written : (bases : List Mode) (m : Mode) → (mode bases).Fits m → (mode bases).write m ≡ mode_text m
mode_is_written bases m fits = text_is_written 200 bases m fits

-- ---- a name and its mode

pub named_written : (bases : List Mode) (d : NamedMode) (old mid : List ℕ) → (mode bases).Fits (mode_of d.mode) → mid ≡ old ++ text.write d.name → mid ++ mode_text (mode_of d.mode) ≡ old ++ (pair name (mode bases)).write (named_of d)
named_written bases d old mid fits is =
    ap (λ t. t ++ mode_text (mode_of d.mode)) is
    ∙ append_assoc old (text.write d.name) (mode_text (mode_of d.mode))
    ∙ ap (λ t. old ++ (text.write d.name ++ t)) (sym (mode_is_written bases (mode_of d.mode) fits))

-- ---- sections

pub section_written : (t : ModeTable) (bs : List NamedMode) (old mid : List ℕ) → bs ≡ t.bases → mid ≡ old ++ (listed (pair name (mode []))).write (map named_of bs) → mid ++ (listed (pair name (mode (modes_of t.bases)))).write (map named_of t.vars) ≡ old ++ section.write (table_of t)
section_written t bs old mid same is =
    ap (λ x. x ++ (listed (pair name (mode (modes_of t.bases)))).write (map named_of t.vars)) (is ∙ ap (λ b. old ++ (listed (pair name (mode []))).write (map named_of b)) same)
    ∙ append_assoc old ((listed (pair name (mode []))).write (map named_of t.bases)) ((listed (pair name (mode (modes_of t.bases)))).write (map named_of t.vars))

pub section_read : (bases vars : List NamedMode) (bytes rest behind : List ℕ) → (listed (pair name (mode []))).read bytes ≡ Some (map named_of bases, rest) → (listed (pair name (mode (modes_of bases)))).read rest ≡ Some (map named_of vars, behind) → section.read bytes ≡ Some ((map named_of bases, map named_of vars), behind)
section_read bases vars bytes rest behind first second = rw first (rw second refl)
