use Rattle.std.proofs.Common.{rules}
use Rattle.gdb_target.proofs.service.beginning.replayed.Goals as goal

pub returns : goal.returns
returns c = record {
  kept = c.in_ok-record.record;
  text = c.in_ok-record.ensures.taken;
  given = c.in_ok-made.made.programs.items;
  files = search rules;
  begin = c.in_ok-begin.begin;
  of_record = c.in_ok-begin.ensures.beginning;
  file = c.in_ok-begin.ensures.file;
  target = c.in_ok-target.ensures;
}
