-- Maps as tables from numbers to contents.
use Rattle.std.specs.Prelude.{◌≡◌, ◌↔◌, ℕ, ◌==◌, Bool, true, false, cond, List, [], ◌∷◌, Option, Some, None, option_and_then}
use Rattle.std.specs.List.{Contains}
use Rattle.setl_value.specs.Datum.{Datum}
use Rattle.setl_value.specs.Order.{IsRising}
use Rattle.setl_value.specs.Pairs.{pair, images}
use Rattle.setl_set.specs.Sets.{has_datum, set_from}
use Rattle.setl_map.specs.Maps.{image}
use Rattle.setl_base.specs.Base.{BaseState, IsBase, find}
use Rattle.setl_rep_bases.specs.Bases.{BasesState}
use Rattle.setl_remote.specs.Slots.{slot_at}
use Rattle.setl_rep_forms.specs.Form.{Form, Entries, no_entry, entry_then, slots_from}
use Rattle.setl_rep_forms.specs.Stands.{value_at, stands, images_in, pairs_in, AreOver}

-- the content of a number
abbrev pub content_in : Entries → ℕ → Option Form
content_in no_entry n = None
content_in (entry_then k c es) n = cond (n == k) (Some c) (content_in es n)

-- each number has one entry
abbrev pub IsKeyed : Entries → Type 0
IsKeyed no_entry = Unit {0}
IsKeyed (entry_then k c es) = (content_in es k ≡ None) × IsKeyed es

-- the set of pairs of a table
abbrev pub table_pairs : BasesState → BaseState → (many : Bool) → Entries → List Datum
table_pairs bs b many es = set_from (pairs_in bs b many es)

abbrev pub single_pairs : BasesState → BaseState → Entries → List Datum
single_pairs bs b es = table_pairs bs b false es

-- the images in a content, which stands for one or for the set of them
abbrev pub images_of : (many : Bool) → Option Datum → List Datum
images_of many None = []
images_of false (Some y) = y ∷ []
images_of true (Some y) = images_in y

-- ---- pairs

-- the pair of z and y is there exactly where the number of z has a content with the image y
abbrev pub MembersOfTables : Type 0
MembersOfTables =
    (bs : BasesState) (b : BaseState) (many : Bool) (es : Entries) (p : Datum) → IsKeyed es
    → Contains (table_pairs bs b many es) p
    ↔ ((n : ℕ) × (c : Form) × (z : Datum) × (y : Datum) × (content_in es n ≡ Some c) × (value_at b n ≡ Some z) × (has_datum y (images_of many (stands bs c)) ≡ true) × (p ≡ pair z y))

-- in a table of single images it is there exactly where the content stands for y
abbrev pub PairsOfTables : Type 0
PairsOfTables =
    (bs : BasesState) (b : BaseState) (es : Entries) (p : Datum) → IsKeyed es
    → Contains (single_pairs bs b es) p ↔ ((n : ℕ) × (c : Form) × (z : Datum) × (y : Datum) × (content_in es n ≡ Some c) × (value_at b n ≡ Some z) × (stands bs c ≡ Some y) × (p ≡ pair z y))

-- ---- images

-- f{x} is the set of the images in the content of the number of x
abbrev pub AllImagesOfTables : Type 0
AllImagesOfTables =
    (bs : BasesState) (b : BaseState) (many : Bool) (es : Entries) (x : Datum) (n : ℕ) → IsBase b → IsKeyed es → value_at b n ≡ Some x
    → IsRising (images_of many (option_and_then (stands bs) (content_in es n)))
    → images x (table_pairs bs b many es) ≡ images_of many (option_and_then (stands bs) (content_in es n))

-- f(x) is what the content of the number of x stands for
abbrev pub ImagesOfTables : Type 0
ImagesOfTables =
    (bs : BasesState) (b : BaseState) (es : Entries) (x : Datum) (n : ℕ) → IsBase b → IsKeyed es → AreOver bs b false es → value_at b n ≡ Some x
    → image x (single_pairs bs b es) ≡ option_and_then (stands bs) (content_in es n)

-- what is no member has no image
abbrev pub NoImagesElsewhere : Type 0
NoImagesElsewhere = (bs : BasesState) (b : BaseState) (many : Bool) (es : Entries) (x : Datum) → IsBase b → IsKeyed es → find b x ≡ None → images x (table_pairs bs b many es) ≡ []

-- ---- slots

-- the entries of slots are keyed, and the content of a number is that of its slot
abbrev pub SlotsAreKeyed : Type 0
SlotsAreKeyed = (cs : List (Option Form)) → IsKeyed (slots_from 0 cs) × ((n : ℕ) → content_in (slots_from 0 cs) n ≡ slot_at cs n)
