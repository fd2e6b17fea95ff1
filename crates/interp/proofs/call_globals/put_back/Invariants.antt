use Rattle.std.proofs.Common.{◌≡◌, drop, length}
use Rattle.interp.specs.inside.Renewed.{put_back}
use Rattle.interp.proofs.call_globals.put_back.Given as goal

abbrev pub invariant-loop-number : goal.invariant-loop-number
invariant-loop-number l = record {
  back : put_back (drop l.number-index l.numbers) l.others l.here ≡ put_back l.numbers l.others l.fn.here;
  long : length l.here ≡ length l.others;
}
