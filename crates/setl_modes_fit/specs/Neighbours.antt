-- A set is in rising order, so the pairs of a map that have one first part stand one after the other. So a set fits a
-- mode where each member fits by itself, and each two neighbours fit together (`Laws` has the law).
use Rattle.std.specs.Prelude.{◌≡◌, refl, Bool, true, false, ◌&&◌, cond, List, [], ◌∷◌, Option, Some, None, pos}
use Rattle.std.specs.Ordering.{is_eq}
use Rattle.setl_value.specs.Datum.{Datum, int}
use Rattle.setl_value.specs.Order.{datum_cmp}
use Rattle.setl_value.specs.Pairs.{pair, pair_parts}
use Rattle.setl_modes.specs.Modes.{Mode, General, Integers, Elements, Sets, SingleMaps, MultiMaps}
use Rattle.setl_modes.specs.Fits.{datum_fits}
use Rattle.setl_modes.specs.declared.mode.Form.TheVariants.{Plain}

-- whether these are the parts of a pair, and each fits
abbrev pub pair_fits : (Datum → Bool) → (Datum → Bool) → Option (Datum × Datum) → Bool
pair_fits domain image None = false
pair_fits domain image (Some p) = domain p.0 && image p.1

-- whether a member fits by itself in a set of this mode
abbrev pub member_fits : Mode → Datum → Bool
member_fits General d = true
member_fits (Elements base m) d = member_fits m d
member_fits (Sets form m) d = datum_fits m d
member_fits (SingleMaps form m r) d = pair_fits (datum_fits m) (datum_fits r) (pair_parts d)
member_fits (MultiMaps form m s) d = pair_fits (datum_fits m) (member_fits s) (pair_parts d)
member_fits m d = false

-- the second parts of two pairs with one first part
abbrev pub images_at_one_point : Option (Datum × Datum) → Option (Datum × Datum) → Option (Datum × Datum)
images_at_one_point (Some p) (Some q) = cond (is_eq (datum_cmp p.0 q.0)) (Some (p.1, q.1)) None
images_at_one_point p q = None

abbrev pub both_fit : (Datum → Datum → Bool) → Option (Datum × Datum) → Bool
both_fit together None = true
both_fit together (Some p) = together p.0 p.1

-- whether two neighbours fit together in a set of this mode: two images of one point don't where it may have one, and
-- where it may have several they fit together in the set of images
abbrev pub go_together : Mode → Datum → Datum → Bool
go_together (Elements base m) a b = go_together m a b
go_together (SingleMaps form m r) a b = both_fit (λ y z. false) (images_at_one_point (pair_parts a) (pair_parts b))
go_together (MultiMaps form m s) a b = both_fit (go_together s) (images_at_one_point (pair_parts a) (pair_parts b))
go_together m a b = true

abbrev pub follows : (Datum → Datum → Bool) → Option Datum → Datum → Bool
follows together None d = true
follows together (Some c) d = together c d

-- whether each of these fits by itself and goes together with the one before it, where `before` stands before the first
abbrev pub all_follow : (Datum → Bool) → (Datum → Datum → Bool) → Option Datum → List Datum → Bool
all_follow alone together before [] = true
all_follow alone together before (d ∷ ds) = alone d && (follows together before d && all_follow alone together (Some d) ds)

-- ---- worked rows: the neighbours [1 1] and [1 2] in an smap, and in an mmap of sets and of maps
abbrev one : Datum
one = int (pos 1)

abbrev two : Datum
two = int (pos 2)

two_images : go_together (SingleMaps Plain Integers Integers) (pair one one) (pair one two) ≡ false
two_images = refl

two_points : go_together (SingleMaps Plain Integers Integers) (pair one one) (pair two one) ≡ true
two_points = refl

set_of_images : go_together (MultiMaps Plain Integers (Sets Plain Integers)) (pair one one) (pair one two) ≡ true
set_of_images = refl

map_of_images : go_together (MultiMaps Plain Integers (SingleMaps Plain Integers Integers)) (pair one (pair two one)) (pair one (pair two two)) ≡ false
map_of_images = refl
