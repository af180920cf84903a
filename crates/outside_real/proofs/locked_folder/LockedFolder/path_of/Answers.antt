use Rattle.std.proofs.Common.{◌≡◌, ◌∙◌, ap, string_bytes, ◌++◌, codes}
use Rattle.std.specs.Fmt.{decimal}
use Rattle.std.proofs.lemmas.Result.{IfOk-weaker}
use Rattle.outside_real.specs.Folder.{folder_path, file_path}
use Rattle.outside_real.proofs.locked_folder.LockedFolder.path_of.Goals as goal

pub returns : goal.returns
returns g c =
    IfOk-weaker c.format.result _ (λ path. string_bytes path ≡ file_path (folder_path c.args.self.now) c.args.file) (λ path wrote. wrote ∙ ap (λ text. text ++ (codes "/f" ++ decimal c.args.file)) c.as_str-path.ensures.value) c.format.ensures.ok
