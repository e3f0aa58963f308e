-- Which of a pair's keys opens a frame, by document 01's cases: the code's Some(Held::Older), Some(Held::Newer) and None.
use Rattle.std.specs.Prelude.{Option, Some, None}
use Rattle.key_traffic.specs.declared.frame.Held.{Held}
use Rattle.key_traffic.specs.declared.frame.Held.TheVariants.{Older, Newer}

abbrev pub Opening : Type 0
Opening = Option Held

pattern abbrev pub ByOlder : Opening
ByOlder = Some Older

pattern abbrev pub ByNewer : Opening
ByNewer = Some Newer

pattern abbrev pub ByNeither : Opening
ByNeither = None
