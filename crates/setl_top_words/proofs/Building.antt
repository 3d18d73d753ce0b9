-- Commands of `clap` with one argument or one command more.
use Rattle.std.proofs.Common.{◌≡◌, false, ◌||◌, ◌∙◌, Result, Ok, Err, IfOk, ap, ap₂}
use Rattle.clap.specs.Words.{App, Rule, AddsArg, AddsSubcommand, app_of, rule_of, with_rule, with_subcommand}
use Rattle.clap.specs.declared.builder.arg.Arg.{Arg}
use Rattle.clap.specs.declared.builder.command.Command.{Command}
use Rattle.clap.specs.declared.builder.command.Command.TheViews.{out-Command as fields_of}
use Rattle.setl_top_words.specs.code.Builds.{Builds}

-- the command is this one, and none of its arguments is global
abbrev IsSo : App → Command → Type 0
IsSo app c = (app_of c ≡ app) × ((fields_of c).has_globals ≡ false)

pub builds_arg : {E : Type 0} (app : App) (rule : Rule) (old : Command) (arg : Arg) (made : Result Command E) → IfOk made (λ new. AddsArg old arg new) → IsSo app old → rule_of arg ≡ rule → arg.global ≡ false → Builds (with_rule app rule) made
builds_arg app rule old arg (Err e) adds so is local = tt
builds_arg app rule old arg (Ok new) adds so is local =
    (adds.shape local ∙ ap₂ with_rule so.0 is, adds.globals ∙ (λ i. so.1 i || local i))

pub builds_command : {E : Type 0} (app sub : App) (upper lower : Command) (made : Result Command E) → IfOk made (λ new. AddsSubcommand upper lower new) → IsSo app upper → IsSo sub lower → Builds (with_subcommand app sub.top) made
builds_command app sub upper lower (Err e) adds so below = tt
builds_command app sub upper lower (Ok new) adds so below =
    (adds.shape below.1 ∙ ap₂ with_subcommand so.0 (ap (λ (a : App). a.top) below.0), adds.globals ∙ (λ i. so.1 i || below.1 i))
