use Rattle.setl_model.proofs.LanguageRows.{images_of_a_map_row, too_wide_row, arithmetic_row, folds_row, subsets_row, long_range_row, enumeration_or_former_row}
use Rattle.setl_model.proofs.worked_operators.Goals as goal

pub returns-clause-images_of_a_map : goal.returns-clause-images_of_a_map
returns-clause-images_of_a_map c = images_of_a_map_row

pub returns-clause-too_wide : goal.returns-clause-too_wide
returns-clause-too_wide c = too_wide_row

pub returns-clause-arithmetic : goal.returns-clause-arithmetic
returns-clause-arithmetic c = arithmetic_row

pub returns-clause-folds : goal.returns-clause-folds
returns-clause-folds c = folds_row

pub returns-clause-subsets : goal.returns-clause-subsets
returns-clause-subsets c = subsets_row

pub returns-clause-long_range : goal.returns-clause-long_range
returns-clause-long_range c = long_range_row

pub returns-clause-enumeration_or_former : goal.returns-clause-enumeration_or_former
returns-clause-enumeration_or_former c = enumeration_or_former_row
