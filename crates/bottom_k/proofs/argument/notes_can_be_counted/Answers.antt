use Rattle.std.proofs.Common.{suc}
use Rattle.bottom_k.proofs.EntriesCounted.{entries_after_search, counted_if_passes}
use Rattle.bottom_k.proofs.argument.notes_can_be_counted.Goals as goal

pub returns : goal.returns
returns g c = λ s p sketch mark due done cells.
    let after = entries_after_search s p sketch mark due done in
    ((λ h. counted_if_passes s (suc p) _ after cells h), (λ h. (_, after, h)))
