use Rattle.cargo_metadata.proofs.Names.{no_manifest}
use Rattle.cargo_metadata.proofs.folder.folder_of.Goals as goal

pub returns-in-None : goal.returns-in-None
returns-in-None c = no_manifest c.args.manifest_path.now c.in-None.ensures.cases
