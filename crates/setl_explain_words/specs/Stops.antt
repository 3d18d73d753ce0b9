-- The names of stops.
use Rattle.std.specs.Prelude.{ℕ, List, codes}
use Rattle.setl_explain_words.specs.declared.stop.Stop as declared
use Rattle.setl_explain_words.specs.declared.stop.Stop.TheVariants as stop

abbrev pub Stop : Type 0
Stop = declared.Stop

-- the first word that the line of a stop tells of it
abbrev pub stop_name : Stop → List ℕ
stop_name stop.Om = codes "om"
stop_name stop.Kind = codes "kind"
stop_name stop.Zero = codes "zero"
stop_name stop.Range = codes "range"
stop_name stop.Wide = codes "wide"
stop_name stop.Deep = codes "deep"
stop_name stop.Form = codes "form"
stop_name stop.Nothing = codes "nothing"
stop_name stop.Value = codes "value"
