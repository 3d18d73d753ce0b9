-- Bytes are a script, or are refused by one line.
use Rattle.std.specs.Prelude.{◌≡◌, ℕ, List}
use Rattle.setl_debug_script.specs.declared.command.Command.{Command}
use Rattle.setl_top_session.specs.Sessions.{IsScript, ScriptRefusal}

abbrev pub NotScriptAndRefused : Type 0
NotScriptAndRefused = (bytes : List ℕ) (commands : List Command) (line : List ℕ) → IsScript bytes commands → ScriptRefusal bytes line → ⊥

abbrev pub OneRefusal : Type 0
OneRefusal = (bytes one two : List ℕ) → ScriptRefusal bytes one → ScriptRefusal bytes two → one ≡ two
