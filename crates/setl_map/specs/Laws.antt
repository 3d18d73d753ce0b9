-- The laws of maps in terms of their pairs.
use Rattle.std.specs.Prelude.{◌↔◌, ◌≤◌, List}
use Rattle.std.specs.List.{Contains}
use Rattle.setl_value.specs.Datum.{Datum, depth, set_of}
use Rattle.setl_value.specs.Pairs.{pair, images}
use Rattle.setl_map.specs.Maps.{put_images}

-- y is an image of x exactly where the pair of x and y is a member, in any set
abbrev pub ImagesByPairs : Type 0
ImagesByPairs = (x y : Datum) (f : List Datum) → Contains (images x f) y ↔ Contains f (pair x y)

-- the set of images that is put is no deeper than the map then is
abbrev pub ImagesAreShallower : Type 0
ImagesAreShallower = (x : Datum) (ys f : List Datum) → depth (set_of ys) ≤ depth (set_of (put_images x ys f))
