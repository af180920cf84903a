use Rattle.date_loading.proofs.LoadingLemmas.{begun-under-way}
use Rattle.date_loading.proofs.loading.Loading.begin.Goals as goal

pub invariant_of-result : goal.invariant_of-result
invariant_of-result c = begun-under-way c.args.manifest c.requires.lawful c.args.tables c.requires.tables c.requires.file
