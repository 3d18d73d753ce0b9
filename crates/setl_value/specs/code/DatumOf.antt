-- What a `Value` stands for.
use Rattle.std.specs.Prelude.{List, map, Option, Some, None}
use Rattle.std.specs.declared.rc.Rc.{Rc}
use Rattle.std.specs.declared.vec.Vec.{Vec}
use Rattle.std.specs.declared.alloc.Global.{Global}
use Rattle.std.specs.Borrow.{Bor}
use Rattle.std.specs.Option.{option_map}
use Rattle.setl_value.specs.declared.Value.{Value}
use Rattle.setl_value.specs.declared.Value.TheVariants.{Bool, Int, Text, Atom, Tuple, Set}
use Rattle.setl_value.specs.code.Body.{Members}
use Rattle.setl_value.specs.Datum.{Datum, bool, int, text, atom, tuple_of, set_of}

-- the datum that a value stands for
abbrev pub datum : Value → Datum
datum (Bool b) = bool b
datum (Int z) = int z
datum (Text t) = text t
datum (Atom n) = atom n
datum (Tuple ps) = tuple_of ps
datum (Set b) = set_of (Members b)

-- a component, which is `None` for `om`
abbrev pub part : Option Value → Option Datum
part o = option_map datum o

-- a component that is lent
abbrev pub lent : Option (Bor Value) → Option Datum
lent None = None
lent (Some v) = Some (datum v.now)

-- a page of a set
abbrev pub page : Rc (Vec Value Global) Global → List Datum
page p = map datum p.value.items
