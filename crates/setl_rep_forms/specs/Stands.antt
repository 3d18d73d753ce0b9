-- What a value in its form stands for, over bases.
use Rattle.std.specs.Prelude.{◌≡◌, ℕ, Bool, true, false, List, [], ◌∷◌, ◌++◌, map, Option, Some, None, IsSome, option_and_then}
use Rattle.std.specs.List.{filter_map}
use Rattle.std.specs.Option.{option_map}
use Rattle.std.specs.Ordering.{nat_cmp}
use Rattle.std.specs.FinSet as set
use Rattle.setl_value.specs.Datum.{Datum, bool, int, text, atom, tuple, Elements, no_element, element_then, element_list, set_of, tuple_of}
use Rattle.setl_value.specs.Datum as datum
use Rattle.setl_value.specs.Order.{IsRising}
use Rattle.setl_value.specs.Pairs.{pair}
use Rattle.setl_value.specs.WellFormed.{IsTrimmed}
use Rattle.setl_set.specs.Sets.{set_from}
use Rattle.setl_base.specs.declared.Elt.{Elt}
use Rattle.setl_base.specs.Base.{BaseState, member_at, value_of}
use Rattle.setl_rep_bases.specs.Bases.{BasesState, base_at, IsThere}
use Rattle.setl_rep_forms.specs.Form.{Form, om, plain, element, numbers, table, handles, Entries, no_entry, entry_then}

-- the value of the living block of a number
abbrev pub value_at : BaseState → ℕ → Option Datum
value_at b n = option_map (λ m. m.value) (member_at b n)

-- the set of the members at these numbers
abbrev pub members_at : BaseState → set.FinSet nat_cmp → List Datum
members_at b ns = set_from (filter_map (value_at b) (set.items ns))

-- the components at these handles
abbrev pub parts_at : BaseState → List (Option Elt) → List (Option Datum)
parts_at b es = map (λ e. option_and_then (value_of b) e) es

-- the images in a content that is the set of them
abbrev pub images_in : Datum → List Datum
images_in (datum.set ms) = element_list ms
images_in d = []

-- the pairs of x with each image, where `many` says that the content is the set of images
abbrev pub pairs_of : Bool → Option Datum → Option Datum → List Datum
pairs_of many None y = []
pairs_of many (Some x) None = []
pairs_of false (Some x) (Some y) = pair x y ∷ []
pairs_of true (Some x) (Some y) = map (pair x) (images_in y)

abbrev mutual
  -- the value that a form stands for, None for `om`
  pub stands : BasesState → Form → Option Datum
  stands bs om = None
  stands bs (plain d) = Some d
  stands bs (element b e) = value_of (base_at bs b) e
  stands bs (numbers layout b ns) = Some (set_of (members_at (base_at bs b) ns))
  stands bs (table layout b many es) = Some (set_of (set_from (pairs_in bs (base_at bs b) many es)))
  stands bs (handles b es) = Some (tuple_of (parts_at (base_at bs b) es))

  -- the pairs of the entries, in no order
  pub pairs_in : BasesState → BaseState → Bool → Entries → List Datum
  pairs_in bs b many no_entry = []
  pairs_in bs b many (entry_then n c es) = pairs_of many (value_at b n) (stands bs c) ++ pairs_in bs b many es

-- ---- which forms stand

-- a content of a map is a value, and where it is the set of images, a set that isn't empty
abbrev pub IsImages : Datum → Type 0
IsImages (datum.set (element_then d ms)) = IsRising (d ∷ element_list ms)
IsImages d = ⊥

abbrev pub IsContent : Bool → Option Datum → Type 0
IsContent many None = ⊥
IsContent false (Some d) = Unit {0}
IsContent true (Some d) = IsImages d

-- each number names a living block
abbrev pub AreLiving : BaseState → set.FinSet nat_cmp → Type 0
AreLiving b ns = (n : ℕ) → set.contains ns n ≡ true → IsSome (value_at b n)

-- each handle names a living block
abbrev pub AreHandles : BaseState → List (Option Elt) → Type 0
AreHandles b [] = Unit {0}
AreHandles b (None ∷ es) = AreHandles b es
AreHandles b (Some e ∷ es) = IsSome (value_of b e) × AreHandles b es

abbrev mutual
  -- each instance that is named is there, all handles and numbers name living blocks, and the contents of maps are values
  pub IsOver : BasesState → Form → Type 0
  IsOver bs om = Unit {0}
  IsOver bs (plain d) = Unit {0}
  IsOver bs (element b e) = IsThere bs b × IsSome (value_of (base_at bs b) e)
  IsOver bs (numbers layout b ns) = IsThere bs b × AreLiving (base_at bs b) ns
  IsOver bs (table layout b many es) = IsThere bs b × AreOver bs (base_at bs b) many es
  IsOver bs (handles b es) = IsThere bs b × AreHandles (base_at bs b) es × IsTrimmed (parts_at (base_at bs b) es)

  pub AreOver : BasesState → BaseState → Bool → Entries → Type 0
  AreOver bs b many no_entry = Unit {0}
  AreOver bs b many (entry_then n c es) = IsSome (value_at b n) × IsOver bs c × IsContent many (stands bs c) × AreOver bs b many es
