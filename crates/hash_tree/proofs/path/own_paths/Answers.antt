use Rattle.hash_tree.proofs.OwnPaths.{own_path}
use Rattle.hash_tree.proofs.path.own_paths.Goals as goal

pub returns : goal.returns
returns c = own_path
