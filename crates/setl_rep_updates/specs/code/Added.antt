-- A value that comes into a set in its form or goes out of it, and one more or one less image of a point of a map.
use Rattle.std.specs.Prelude.{◌≡◌, ◌⊎◌, ℕ, Bool, true, List, length, Option, Some, None, IsSome, if◌then◌else◌, option_and_then}
use Rattle.std.specs.Ordering.{nat_cmp}
use Rattle.std.specs.FinSet as set
use Rattle.setl_value.specs.Datum.{Datum, set_of}
use Rattle.setl_value.specs.Datum as datum
use Rattle.setl_value.specs.Order.{IsRising}
use Rattle.setl_set.specs.Sets.{has_datum, insert_datum, remove_datum}
use Rattle.setl_modes.specs.Modes.{Mode}
use Rattle.setl_base.specs.Base.{find}
use Rattle.setl_rep_bases.specs.declared.BaseId.{BaseId}
use Rattle.setl_rep_bases.specs.Bases.{BasesState, base_at, named, IsThere}
use Rattle.setl_rep_forms.specs.Form.{Form, plain, numbers}
use Rattle.setl_rep_forms.specs.Stands.{members_at, stands, AreLiving, IsContent, IsOver}
use Rattle.setl_rep_tables.specs.Tables.{images_of}
use Rattle.setl_rep_building.specs.HasForm.{HasForm}
use Rattle.setl_rep_maps.specs.Contents.{content_of, IsKeyedForm, HasBase, IsPoint, PutsContent}

-- a set on a base of which y is a member, or a plain set
abbrev pub TakesMember : BasesState → Form → Datum → Type 0
TakesMember bs (numbers k b ns) y = IsThere bs b × AreLiving (base_at bs b) ns × IsSome (find (base_at bs b) y)
TakesMember bs (plain (datum.set ms)) y = Unit {0}
TakesMember bs f y = ⊥

-- a set that is held plain or as numbers
abbrev pub IsSetHeld : Form → Type 0
IsSetHeld (numbers k b ns) = Unit {0}
IsSetHeld (plain (datum.set ms)) = Unit {0}
IsSetHeld f = ⊥

-- the members of what a form stands for, a set
abbrev pub held_members : BasesState → Form → List Datum
held_members bs f = images_of true (stands bs f)

-- the list with y, or without it
abbrev pub changed : (on : Bool) → Datum → List Datum → List Datum
changed on y ds = if on then insert_datum y ds else remove_datum y ds

-- one form but for what it holds
abbrev pub AreSetsAlike : Form → Form → Type 0
AreSetsAlike (numbers k a ms) (numbers l b ns) = (l ≡ k) × (b ≡ a)
AreSetsAlike (plain d) (plain e) = Unit {0}
AreSetsAlike f g = ⊥

-- the second numbers are those of the members at the first with y, or without it
pub record AreNumbersPut (bs : BasesState) (b : BaseId) (on : Bool) (y : Datum) (ns ms : set.FinSet nat_cmp) : Type 0 where
  pub living : AreLiving (base_at bs b) ms
  pub members : members_at (base_at bs b) ms ≡ changed on y (members_at (base_at bs b) ns)

-- g is the set f with y, or without it
pub record IsMemberPut (bs : BasesState) (on : Bool) (y : Datum) (f g : Form) : Type 0 where
  pub over : IsOver bs g
  pub value : stands bs g ≡ Some (set_of (changed on y (held_members bs f)))
  pub rising : IsRising (changed on y (held_members bs f))
  pub alike : AreSetsAlike f g

-- g is the map f, whose content at the number of x has y beside the images that are there, in the form of the mode s
pub record IsImageAdded (bs : BasesState) (n : ℕ) (s : Mode) (x y : Datum) (f g : Form) : Type 0 where
  pub number : ℕ
  pub content : Form
  pub base : HasBase bs f
  pub point : IsPoint bs f number x
  pub over : IsOver bs content
  pub value : stands bs content ≡ Some (set_of (insert_datum y (images_of true (option_and_then (stands bs) (content_of f number)))))
  pub rising : IsRising (insert_datum y (images_of true (option_and_then (stands bs) (content_of f number))))
  pub form : HasForm (named bs n) s content ⊎ ((c : Form) × (content_of f number ≡ Some c) × AreSetsAlike c content)
  pub keyed : IsKeyedForm f
  pub keyed_then : IsKeyedForm g
  pub put : PutsContent number (Some content) f g

-- a content that is a set of images
pub record IsImageSet (bs : BasesState) (c : Form) : Type 0 where
  pub held : IsSetHeld c
  pub over : IsOver bs c
  pub content : IsContent true (stands bs c)

-- the second content is the first in its form but for what it holds, or there is none
abbrev pub IsLeft : BasesState → (old new : Option Form) → Type 0
IsLeft bs old None = Unit {0}
IsLeft bs old (Some c) = IsOver bs c × IsContent true (stands bs c) × ((w : Form) × (old ≡ Some w) × AreSetsAlike w c)

-- the content is a set on a base of which y is a member, or a plain set, and y is an image in it and not the only one
abbrev pub HasSeveral : BasesState → Datum → Option Form → Type 0
HasSeveral bs y None = ⊥
HasSeveral bs y (Some c) = TakesMember bs c y × IsRising (held_members bs c) × (has_datum y (held_members bs c) ≡ true) × ((length (held_members bs c) ≡ 1) → ⊥)

-- g is the map f, whose content at the number n has no image y; where that was the one image, there is no content
pub record IsContentCut (bs : BasesState) (n : ℕ) (y : Datum) (f g : Form) : Type 0 where
  pub content : Option Form
  pub put : PutsContent n content f g
  pub left : IsLeft bs (content_of f n) content
  pub images : images_of true (option_and_then (stands bs) content) ≡ remove_datum y (images_of true (option_and_then (stands bs) (content_of f n)))

-- g is the map f, whose content at the number of x has no image y, or f itself, where x is no member of the base
pub record IsImageCut (bs : BasesState) (b : BaseId) (x y : Datum) (f g : Form) : Type 0 where
  pub base : HasBase bs f
  pub keyed : IsKeyedForm f
  pub keyed_then : IsKeyedForm g
  pub cut : ((number : ℕ) × IsPoint bs f number x × IsContentCut bs number y f g) ⊎ ((find (base_at bs b) x ≡ None) × (g ≡ f))
