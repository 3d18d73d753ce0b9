-- What a closure makes of the one image of a point in place.
use Rattle.std.specs.Prelude.{◌≡◌, List, Some, IsTrue}
use Rattle.std.specs.Borrow.{MutBor}
use Rattle.std.specs.Fn.{Once}
use Rattle.setl_value.specs.declared.Value.{Value}
use Rattle.setl_value.specs.Datum.{Datum}
use Rattle.setl_value.specs.Pairs.{is_map}
use Rattle.setl_value.specs.code.Changing.{Leaves}
use Rattle.setl_map.specs.Maps.{image, put_image}

module _ {F R : Type 0} (g : Once F (MutBor Value × Unit {0}) (R × (MutBor Value × Unit {0}))) (change : F) where
  -- x has one image in f, and a call of the closure changed it; where that is as before, so is the whole
  pub record ChangesImage (x : Datum) (f : List Datum) (r : R) (now : List Datum) (IsSame : Type 0) : Type 0 where
    pub old : Datum
    pub new : Datum
    pub map : IsTrue (is_map f)
    pub there : image x f ≡ Some old
    pub left : Leaves g change old r new
    pub written : now ≡ put_image x (Some new) f
    pub same : new ≡ old → IsSame
