use Rattle.std.proofs.Common.{lit<}
use Rattle.std.proofs.lemmas.Str.Pattern.{strip_suffix_char}
use Rattle.bb_shell.proofs.FolderPlans.{folder_as_named}
use Rattle.bb_shell.proofs.plans.folder_named.Goals as goal

pub returns : goal.returns
unfolding lib.Utf8.encode
returns c =
    let setting = c.args.setting.now in
    folder_as_named setting c.strip_suffix.result (strip_suffix_char 47 setting c.strip_suffix.result c.strip_suffix.ensures.cases (lit< tt))
