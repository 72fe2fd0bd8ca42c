use Rattle.std.proofs.Common.{rules}
use Rattle.bb_words.proofs.given.Given.given_once.Goals as goal

pub returns-in-Cause : goal.returns-in-Cause
returns-in-Cause c = search rules

pub returns-in-Name : goal.returns-in-Name
returns-in-Name c = search rules

pub returns-in-Settings : goal.returns-in-Settings
returns-in-Settings c = search rules
