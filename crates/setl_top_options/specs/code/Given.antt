-- The options of a run that were given.
use Rattle.std.specs.Prelude.{◌≡◌, true, false, Some, None}
use Rattle.setl_top_options.specs.declared.given.Given.{Given}
use Rattle.setl_top_options.specs.declared.given.RunOption.{RunOption}
use Rattle.setl_top_options.specs.declared.given.RunOption.TheVariants.{Unbased, Dump, Turns, Watch}

-- nothing was given
abbrev pub is_nothing : Given
is_nothing = record { turns = None; unbased = false; dump = false; watch = None }

-- no option of this kind was given
abbrev pub IsFree : Given → RunOption → Type 0
IsFree given Unbased = given.unbased ≡ false
IsFree given Dump = given.dump ≡ false
IsFree given (Turns n) = given.turns ≡ None
IsFree given (Watch asked) = given.watch ≡ None

-- these and one more
abbrev pub with_given : Given → RunOption → Given
with_given given Unbased = record given { unbased = true }
with_given given Dump = record given { dump = true }
with_given given (Turns n) = record given { turns = Some n }
with_given given (Watch asked) = record given { watch = Some asked }
