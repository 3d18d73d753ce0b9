use Rattle.setl_machine_variables.proofs.deciding.learn_laws.Goals as goal

pub returns-clause-parts : goal.returns-clause-parts
returns-clause-parts c =
    let laws = c.parts_decide.ensures in
    record {
      values = laws.values;
      images = laws.images;
      puts = laws.puts;
      set_puts = laws.set_puts;
      combined = laws.combined;
      least = laws.least;
      first = laws.first;
      last = laws.last;
    }
