-- The mode of a part of a whole that fits a mode, and which updates of a part keep that the whole fits.
use Rattle.std.specs.Prelude.{◌≡◌, refl, Bool, true, false, cond, [], Option, Some, None, pos}
use Rattle.setl_value.specs.Datum.{Datum, int, text}
use Rattle.setl_modes.specs.Modes.{Mode, General, Integers, Strings, Elements, Sets, Tuples, SingleMaps, MultiMaps}
use Rattle.setl_modes.specs.Fits.{fits}
use Rattle.setl_operators_table.specs.declared.Operator.{Operator}
use Rattle.setl_operators_table.specs.declared.Operator.TheVariants.{Add, Subtract, Multiply, Power, Divide, Modulo, Max, Min, With, Less, Lessf}
use Rattle.setl_modes.specs.declared.mode.Form.TheVariants.{Plain}

-- the mode of the members of sets of this mode, where these are tested one by one
abbrev pub member_mode : Mode → Option Mode
member_mode General = Some General
member_mode (Elements base m) = member_mode m
member_mode (Sets form m) = Some m
member_mode m = None

-- whether the mode takes sets
abbrev pub takes_sets : Mode → Bool
takes_sets General = true
takes_sets (Elements base m) = takes_sets m
takes_sets (Sets form m) = true
takes_sets (SingleMaps form d r) = true
takes_sets (MultiMaps form d s) = true
takes_sets m = false

-- The mode of `whole(x)`, where the whole fits this mode: a new part of that mode keeps that the whole fits. None where that
-- isn't decided so.
abbrev pub value_mode : Mode → Option Datum → Option Mode
value_mode General x = Some General
value_mode (Elements base m) x = value_mode m x
value_mode (Tuples m) x = Some m
value_mode (SingleMaps form d r) x = cond (fits d x) (Some r) None
value_mode (MultiMaps form d s) x = cond (fits d x) (member_mode s) None
value_mode m x = None

-- the same of `whole{x}`
abbrev pub images_mode : Mode → Option Datum → Option Mode
images_mode General x = Some General
images_mode (Elements base m) x = images_mode m x
images_mode (MultiMaps form d s) x = cond (takes_sets s) (cond (fits d x) (Some s) None) None
images_mode m x = None

-- whether `whole with v` fits where the whole does
abbrev pub takes_one : Mode → Option Datum → Bool
takes_one General v = true
takes_one (Elements base m) v = takes_one m v
takes_one (Sets form m) v = fits m v
takes_one (Tuples m) v = fits m v
takes_one m v = false

-- whether `whole + v` fits where the whole does
abbrev pub takes_all : Mode → Option Datum → Bool
takes_all General v = true
takes_all Integers v = true
takes_all Strings v = true
takes_all (Elements base m) v = takes_all m v
takes_all (Sets form m) v = fits (Sets form m) v
takes_all (Tuples m) v = fits (Tuples m) v
takes_all m v = false

-- whether `whole * v` fits where the whole does; an integer may also make copies of a string
abbrev pub takes_product : Mode → Option Datum → Bool
takes_product General v = true
takes_product Integers v = fits Integers v
takes_product (Elements base m) v = takes_product m v
takes_product m v = false

-- whether `whole mod v` does
abbrev pub takes_remainder : Mode → Bool
takes_remainder General = true
takes_remainder Integers = true
takes_remainder (Elements base m) = takes_remainder m
takes_remainder m = false

-- whether the mode takes every value
abbrev pub takes_any : Mode → Bool
takes_any General = true
takes_any (Elements base m) = takes_any m
takes_any m = false

-- Whether the whole fits that an operator gives of one that fits and a value, as the value decides it. What takes members
-- out keeps every mode, and so does what makes an integer of integers alone.
abbrev pub combines : Operator → Mode → Option Datum → Bool
combines With m v = takes_one m v
combines Add m v = takes_all m v
combines Less m v = true
combines Subtract m v = true
combines Lessf m v = true
combines Multiply m v = takes_product m v
combines Modulo m v = takes_remainder m
combines Power m v = true
combines Divide m v = true
combines Max m v = true
combines Min m v = true
combines o m v = takes_any m

-- ---- worked rows
abbrev one : Option Datum
one = Some (int (pos 1))

a_member : combines With (Sets Plain Strings) one ≡ false
a_member = refl

a_sum : combines Add Integers one ≡ true
a_sum = refl

copies_of_a_string : combines Multiply Integers (Some (text [])) ≡ false
copies_of_a_string = refl

an_image : value_mode (SingleMaps Plain Integers Strings) one ≡ Some Strings
an_image = refl

another_point : value_mode (SingleMaps Plain Strings Strings) one ≡ None
another_point = refl

a_set_of_images : images_mode (MultiMaps Plain Integers (Sets Plain Strings)) one ≡ Some (Sets Plain Strings)
a_set_of_images = refl
