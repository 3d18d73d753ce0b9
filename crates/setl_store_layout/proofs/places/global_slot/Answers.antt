use Rattle.std.proofs.Common.{◌∙◌, sym}
use Rattle.setl_model_runs.specs.Variable.{Global}
use Rattle.setl_store.specs.MainProgram.{main_variables}
use Rattle.setl_store_layout.proofs.Finding.{found_is, found_within, missing}
use Rattle.setl_store_layout.proofs.places.global_slot.Goals as goal

pub returns-in-None-clause-none : goal.returns-in-None-clause-none
returns-in-None-clause-none c =
    missing 0 (main_variables c.args.code.now).global (Global c.args.name.now) (sym (c.requires.globals c.args.name.now) ∙ sym c.place_at.ensures ∙ c.in-None.is)

pub returns-in-Some-clause-there : goal.returns-in-Some-clause-there
returns-in-Some-clause-there c =
    found_within (main_variables c.args.code.now).global (Global c.args.name.now) c.in-Some.place (sym (c.requires.globals c.args.name.now) ∙ sym c.place_at.ensures ∙ c.in-Some.is)

pub returns-in-Some-clause-named : goal.returns-in-Some-clause-named
returns-in-Some-clause-named c =
    found_is (main_variables c.args.code.now).global (Global c.args.name.now) c.in-Some.place (sym (c.requires.globals c.args.name.now) ∙ sym c.place_at.ensures ∙ c.in-Some.is)
