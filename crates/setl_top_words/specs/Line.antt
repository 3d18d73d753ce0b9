-- The command line as `clap` is told of it: what it reads of the commands, their options, the file and the numbers.
use Rattle.std.specs.Prelude.{◌-◌, ◌^◌, ℕ, List, pos, true, Some, codes}
use Rattle.clap.specs.Words.{App, Rule, new_app, new_rule, with_rule, with_subcommand}
use Rattle.clap.specs.declared.builder.ArgAction.TheVariants.{SetTrue}
use Rattle.clap.specs.declared.builder.value_parser.ValueParser.TheVariants.{Signed}

abbrev pub unbased_rule : Rule
unbased_rule = record (new_rule (codes "unbased")) { long = Some (codes "unbased"); action = Some SetTrue }

abbrev pub dump_rule : Rule
dump_rule = record (new_rule (codes "dump")) { long = Some (codes "dump"); action = Some SetTrue }

abbrev pub turns_rule : Rule
turns_rule = record (new_rule (codes "turns")) { long = Some (codes "turns"); value_names = 1; parser = Some (Signed (pos 0) (pos (2 ^ 63 - 1))) }

abbrev pub watch_rule : Rule
watch_rule = record (new_rule (codes "watch")) { long = Some (codes "watch"); value_names = 1 }

abbrev pub file_rule : Rule
file_rule = record (new_rule (codes "file")) { value_names = 1; required = true }

abbrev pub seed_rule : Rule
seed_rule = record (new_rule (codes "seed")) { value_names = 1; required = true; parser = Some (Signed (pos 0) (pos (2 ^ 63 - 1))) }

abbrev pub nodes_rule : Rule
nodes_rule = record (new_rule (codes "nodes")) { value_names = 1; required = true; parser = Some (Signed (pos 1) (pos 2000)) }

-- a command that runs what a file holds
abbrev pub run_app : List ℕ → App
run_app name = with_rule (with_rule (with_rule (with_rule (with_rule (new_app name) unbased_rule) dump_rule) turns_rule) watch_rule) file_rule

abbrev pub file_app : List ℕ → App
file_app name = with_rule (new_app name) file_rule

abbrev pub stop_rule : Rule
stop_rule = record (new_rule (codes "stop")) { long = Some (codes "stop"); value_names = 1 }

abbrev pub explained_rule : Rule
explained_rule = record (new_rule (codes "file")) { value_names = 1 }

-- without a word it tells its help
abbrev pub told_app : App
told_app = let a = new_app (codes "explain") in record a { top = record a.top { arg_required_else_help = true } }

abbrev pub explain_app : App
explain_app = with_rule (with_rule told_app stop_rule) explained_rule

abbrev pub debug_app : App
debug_app = with_rule (with_rule (new_app (codes "debug")) unbased_rule) file_rule

abbrev pub trial_app : App
trial_app = with_rule (with_rule (new_app (codes "trial")) seed_rule) nodes_rule

-- the program before its commands, which is told only the words after its own name
abbrev pub empty_app : App
empty_app = let a = new_app (codes "setl") in record a { top = record a.top { no_binary_name = true; subcommand_required = true } }

abbrev pub setl_app : App
setl_app = with_subcommand (with_subcommand (with_subcommand (with_subcommand (with_subcommand (with_subcommand (with_subcommand (with_subcommand (with_subcommand empty_app (run_app (codes "run")).top) (run_app (codes "exec")).top) (file_app (codes "check")).top) (file_app (codes "code")).top) (file_app (codes "build")).top) (file_app (codes "advise")).top) explain_app.top) debug_app.top) trial_app.top
