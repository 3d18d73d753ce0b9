-- What maps that are held as tables stand for, by their contents.
use Rattle.std.specs.Prelude.{◌≡◌, ℕ, Bool, false, [], Option, Some, None, option_and_then}
use Rattle.setl_value.specs.Datum.{Datum, set_of}
use Rattle.setl_value.specs.Pairs.{pair, images}
use Rattle.setl_set.specs.Sets.{insert_datum}
use Rattle.setl_map.specs.Maps.{image, domain_of, put_image, put_images}
use Rattle.setl_rep_bases.specs.declared.BaseId.{BaseId}
use Rattle.setl_base.specs.Base.{find}
use Rattle.setl_rep_bases.specs.Bases.{BasesState, base_at}
use Rattle.setl_rep_forms.specs.Form.{Form}
use Rattle.setl_rep_forms.specs.Stands.{stands, IsOver}
use Rattle.setl_rep_maps.specs.Contents.{table_of, IsTable, content_of, IsKeyedForm, HasBase, IsPoint, map_pairs, images_from, MayHave, PutsContent, IsDomain}

abbrev pub StandsForPairs : Type 0
StandsForPairs = (bs : BasesState) (f : Form) → IsTable f → stands bs f ≡ Some (set_of (map_pairs bs f))

-- f{x} is the set of the images in the content of the number of x, and f(x) is what the content stands for
abbrev pub ContentsStandForImages : Type 0
ContentsStandForImages =
    (bs : BasesState) (f : Form) (n : ℕ) (x : Datum) → IsOver bs f → IsKeyedForm f → HasBase bs f → IsPoint bs f n x
    → images x (map_pairs bs f) ≡ images_from bs f (content_of f n)

abbrev pub SingleContentsStandForImages : Type 0
SingleContentsStandForImages =
    (bs : BasesState) (f : Form) (b : BaseId) (n : ℕ) (x : Datum) → table_of f ≡ Some (b, false) → IsOver bs f → IsKeyedForm f → HasBase bs f → IsPoint bs f n x
    → image x (map_pairs bs f) ≡ option_and_then (stands bs) (content_of f n)

-- what is no member of the base has no image
abbrev pub NoImagesElsewhere : Type 0
NoImagesElsewhere =
    (bs : BasesState) (f : Form) (b : BaseId) (many : Bool) (x : Datum) → table_of f ≡ Some (b, many) → IsKeyedForm f → HasBase bs f → find (base_at bs b) x ≡ None → images x (map_pairs bs f) ≡ []

-- a content that is put makes its images those of the point
abbrev pub PutsAreImages : Type 0
PutsAreImages =
    (bs : BasesState) (f g : Form) (n : ℕ) (c : Option Form) (x : Datum) → IsOver bs f → IsKeyedForm f → IsKeyedForm g → HasBase bs f → IsPoint bs f n x → MayHave bs f c → PutsContent n c f g
    → IsOver bs g × (map_pairs bs g ≡ put_images x (images_from bs f c) (map_pairs bs f))

abbrev pub SinglePutsAreImages : Type 0
SinglePutsAreImages =
    (bs : BasesState) (f g : Form) (b : BaseId) (n : ℕ) (c : Option Form) (x : Datum) → table_of f ≡ Some (b, false) → IsOver bs f → IsKeyedForm f → IsKeyedForm g → HasBase bs f → IsPoint bs f n x → MayHave bs f c → PutsContent n c f g
    → map_pairs bs g ≡ put_image x (option_and_then (stands bs) c) (map_pairs bs f)

-- one more image in the content of a point is one more pair in the map
abbrev pub ImagesMakePairs : Type 0
ImagesMakePairs =
    (bs : BasesState) (f g : Form) (n : ℕ) (c : Option Form) (x y : Datum) → IsOver bs f → IsKeyedForm f → IsKeyedForm g → IsPoint bs f n x → PutsContent n c f g
    → images_from bs f c ≡ insert_datum y (images_from bs f (content_of f n)) → map_pairs bs g ≡ insert_datum (pair x y) (map_pairs bs f)

-- the set of the numbers with a content stands for the domain
abbrev pub NumbersAreDomains : Type 0
NumbersAreDomains =
    (bs : BasesState) (f g : Form) → IsOver bs f → IsKeyedForm f → IsDomain f g
    → IsOver bs g × (stands bs g ≡ Some (set_of (domain_of (map_pairs bs f))))
