use Rattle.ftd.proofs.Tests.{tests}
use Rattle.play.specs.Words.{says_bytes}
use Rattle.play.proofs.words.says_bytes.Goals as goal

pub returns-in-empty : goal.returns-in-empty
unfolding says_bytes
returns-in-empty c = search tests

pub returns-in-len1 : goal.returns-in-len1
unfolding says_bytes
returns-in-len1 c = search tests

pub returns-then-word-eq0 : goal.returns-then-word-eq0
unfolding says_bytes
returns-then-word-eq0 c = search tests

pub returns-else-word-eq0 : goal.returns-else-word-eq0
unfolding says_bytes
returns-else-word-eq0 c = search tests
