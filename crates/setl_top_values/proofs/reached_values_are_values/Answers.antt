use Rattle.setl_top_values.proofs.Codes.{Laws, code_stands, states_stand}
use Rattle.setl_top_values.proofs.reached_values_are_values.Goals as goal

pub returns : goal.returns
returns c =
    let laws : Laws = record {
      plain = c.constants_are_values.ensures.plain;
      marked = c.constants_are_values.ensures.marked;
      starts = c.reached_values_stand.ensures.starts;
      runs = c.reached_values_stand.ensures.runs;
    } in
    record { code = code_stands laws; states = states_stand laws }
