-- Texts by name, as entries and as finite maps.
use Rattle.std.proofs.Common.{◌≡◌, ◌∙◌, ℕ, List, [], ◌∷◌, Some, Vec, String, cond, refl, sym, ap, string_bytes}
use Rattle.std.specs.Prelude.{map as list_map}
use Rattle.std.specs.Option.{option_map}
use Rattle.std.specs.Ordering.{nat_cmp, is_eq}
use Rattle.std.specs.Str.{bytes_eq}
use Rattle.std.specs.Cmp.{eq_by_cmp_equiv}
use Rattle.std.specs.Cmp.Lexicographic.{slice_cmp, nat_list_cmp_total}
use Rattle.std.specs.Map.{lookup}
use Rattle.std.specs.HashMap.{HashMap, get_by_text}
use Rattle.std.specs.FinMap as map
use Rattle.std.proofs.lemmas.Map.Text.{is_eq-slice_cmp}
use Rattle.setl_io.specs.code.TextMap.{text_map}
use Rattle.setl_io.proofs.Cond.{through_cond}

-- the text that an entry of the name has
pub find-entries : {Y Z : Type 0} (name : List ℕ) (es : List (String Y × Vec ℕ Z)) →
    map.find (slice_cmp nat_cmp) name (list_map (λ e. (string_bytes e.0, e.1.items)) es) ≡ option_map (λ text. text.items) (lookup (λ k. bytes_eq name (string_bytes k)) es)
find-entries name [] = refl
find-entries name (e ∷ es) =
    let after = map.find (slice_cmp nat_cmp) name (list_map (λ e. (string_bytes e.0, e.1.items)) es) in
    ap (λ b. cond b (Some e.1.items) after) (is_eq-slice_cmp name (string_bytes e.0))
    ∙ ap (cond (bytes_eq name (string_bytes e.0)) (Some e.1.items)) (find-entries name es)
    ∙ sym (through_cond (option_map (λ text. text.items)) (bytes_eq name (string_bytes e.0)) (Some e.1) _)

pub get-text_map : {Y Z S : Type 0} (m : HashMap (String Y) (Vec ℕ Z) S) (name : List ℕ) → map.get (text_map m.entries) name ≡ option_map (λ text. text.items) (get_by_text m name)
get-text_map m name = map.get-from_entries nat_list_cmp_total _ _ ∙ find-entries name m.entries

-- the order and the bytes tell the same names apart
same_name : (name other : List ℕ) → is_eq (slice_cmp nat_cmp other name) ≡ bytes_eq name other
same_name name other = (eq_by_cmp_equiv nat_list_cmp_total).symm other name ∙ is_eq-slice_cmp name other

-- one text is put in, and all others stay
pub text_map-updates : {Y Z S : Type 0} (old new : HashMap (String Y) (Vec ℕ Z) S) (name : List ℕ) (text : Vec ℕ Z) →
    ((other : List ℕ) → get_by_text new other ≡ cond (bytes_eq name other) (Some text) (get_by_text old other)) →
    text_map new.entries ≡ map.insert (text_map old.entries) name text.items
text_map-updates old new name text h =
    map.same_map nat_list_cmp_total (map.slice_cmp-IsAntisymmetric map.nat_cmp-IsAntisymmetric) _ _ (λ other.
    get-text_map new other
    ∙ ap (option_map (λ t. t.items)) (h other)
    ∙ through_cond (option_map (λ t. t.items)) (bytes_eq name other) (Some text) _
    ∙ sym (
    map.get-insert nat_list_cmp_total (text_map old.entries) name text.items other
    ∙ ap (λ b. cond b (Some text.items) (map.get (text_map old.entries) other)) (same_name name other)
    ∙ ap (cond (bytes_eq name other) (Some text.items)) (get-text_map old other)))
