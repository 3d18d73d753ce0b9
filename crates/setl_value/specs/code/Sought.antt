-- What is sought among the members of a set.
use Rattle.setl_value.specs.declared.places.Sought.{Sought}
use Rattle.setl_value.specs.declared.places.Sought.TheVariants.{Member, Point}
use Rattle.setl_value.specs.Datum.{Datum}
use Rattle.setl_value.specs.code.DatumOf.{datum}
use Rattle.setl_value.specs.code.Places.{point}

-- the datum whose place is sought
abbrev pub sought : Sought → Datum
sought (Member v) = datum v.now
sought (Point x) = point (datum x.now)
