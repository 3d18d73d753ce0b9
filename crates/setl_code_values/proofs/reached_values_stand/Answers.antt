use Rattle.setl_code_values.proofs.Cells.{starts_stand}
use Rattle.setl_code_values.proofs.Moving.{runs_stand}
use Rattle.setl_code_values.proofs.reached_values_stand.Goals as goal

pub returns : goal.returns
returns c = record {
  starts = starts_stand;
  runs = runs_stand (record {
    operators = c.operators_give_values.ensures;
    readings = c.readings_give_values.ensures;
    parts = c.parts_give_values.ensures.part;
    wholes = c.parts_give_values.ensures.whole;
    combinations = c.parts_give_values.ensures.combined;
    takings = c.takings_give_values.ensures;
    items = c.items_are_values.ensures;
    admitted = c.collections_are_values.ensures.admitted;
    collected = c.collections_are_values.ensures.collected;
  });
}
