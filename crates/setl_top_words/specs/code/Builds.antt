-- Commands of `clap` that are being made.
use Rattle.std.specs.Prelude.{◌≡◌, false, Result, IfOk}
use Rattle.clap.specs.Words.{App, app_of}
use Rattle.clap.specs.declared.builder.command.Command.{Command}
use Rattle.clap.specs.declared.builder.command.Command.TheViews.{out-Command as fields_of}

-- where memory was found, the command is this one, and none of its arguments is global
abbrev pub Builds : {E : Type 0} → App → Result Command E → Type 0
Builds app made = IfOk made (λ c. (app_of c ≡ app) × ((fields_of c).has_globals ≡ false))
