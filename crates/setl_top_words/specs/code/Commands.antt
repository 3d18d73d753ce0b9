-- The commands and options that those of the code stand for.
use Rattle.setl_top_words.specs.Words as words
use Rattle.setl_top_options.specs.declared.options.Options.{Options}
use Rattle.setl_top_words.specs.declared.reading.Command.{Command}
use Rattle.setl_top_words.specs.declared.reading.Command.TheVariants as asked

abbrev pub options_now : Options → words.Options
options_now options = record { turns = options.turns; based = options.based; dump = options.dump; watch = options.watch }

abbrev pub command_of : Command → words.Command
command_of (asked.Run kind options name) = words.Run kind (options_now options) name.now
command_of (asked.Check name) = words.Check name.now
command_of (asked.Code name) = words.Code name.now
command_of (asked.Build name) = words.Build name.now
command_of (asked.Advise name) = words.Advise name.now
command_of (asked.Explain name) = words.Explain name.now
command_of (asked.TellStop stop) = words.TellStop stop
command_of (asked.Debug based name) = words.Debug based name.now
command_of (asked.Trial seed nodes) = words.Trial seed nodes
