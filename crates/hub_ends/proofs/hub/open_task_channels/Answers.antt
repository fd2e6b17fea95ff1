use Rattle.std.proofs.Common.{◌≡◌, ◌+◌, ◌∷◌, [], ap, arith, map, rules, subst, sym, ◌∙◌}
use mathlib.Core.List.{map-append}
use Rattle.hub_ends.specs.Orders.{at}
use Rattle.hub_ends.specs.TaskChannels.{channel_on, sent_on}
use Rattle.hub_ends.specs.ChannelEnds.{source_of}
use Rattle.hub_ends.specs.inside.Opening.{IsNewPassOf}
use Rattle.hub_ends.proofs.Handed.{length_map}
use Rattle.hub_ends.proofs.Opening.{at_more, passes_more, rooms_more}
use Rattle.hub_ends.proofs.hub.open_task_channels.Goals as goal

pub loop-worker-preserved : goal.loop-worker-preserved
loop-worker-preserved g c =
    let i = c.loop-worker.invariant in
    let o = c.open_task_channel.ensures in
    let task_channels = c.loop-worker.rows.task_channels in
    let passes = c.loop-worker.rows.passes in
    let one = c.in_ok-task_channel in
    let added = c.push_reserved.ensures.items in
    let more = ap (map channel_on) added ∙ map-append channel_on task_channels.items (one.task_channel ∷ []) in
    record {
      ticks = i.ticks ∙ sym o.channel;
      senders = search rules;
      received = o.received ∙ i.received;
      channel = o.channel ∙ i.channel;
      task_channels = search rules;
      passes = search rules;
      task_channels_room = search rules;
      passes_room = search rules;
      nothing = λ w. ap (λ xs. at (map sent_on xs) w) added ∙ at_more sent_on task_channels.items one.task_channel one.ensures.task_channel i.nothing w;
      new = passes_more (source_of c.args.events.now) (map channel_on task_channels.items) _ (channel_on one.task_channel) c.loop-worker.worker passes.items _ one.pass i.new
          (subst (λ e. IsNewPassOf e (channel_on one.task_channel) c.loop-worker.worker one.pass) i.channel one.ensures.pass)
          (omega (arith, i.task_channels, task_channels.ok.0, length_map channel_on task_channels.items))
          (omega (arith, i.passes, passes.ok.0))
          more
          c.push_reserved-in-loop-worker.ensures.items;
      rooms = rooms_more 2 (map channel_on task_channels.items) _ (channel_on one.task_channel) i.rooms one.ensures.room more;
      gone = i.gone;
    }

pub returns-clause-filled : goal.returns-clause-filled
returns-clause-filled g c =
    let i = c.loop-worker.invariant in
    let all : c.loop-worker.worker ≡ c.args.workers = omega (arith, c.loop-worker-test.false, c.loop-worker.auto.worker-end) in
    record { task_channels = i.task_channels ∙ all; passes = i.passes ∙ all; nothing = i.nothing; new = i.new; rooms = i.rooms }

pub returns-clause-gone : goal.returns-clause-gone
returns-clause-gone g c = c.loop-worker.invariant.gone

pub returns-clause-senders : goal.returns-clause-senders
returns-clause-senders g c =
    let all : c.loop-worker.worker ≡ c.args.workers = omega (arith, c.loop-worker-test.false, c.loop-worker.auto.worker-end) in
    c.loop-worker.invariant.senders ∙ ap (λ n. n + 1) all

pub returns-clause-received : goal.returns-clause-received
returns-clause-received g c = c.loop-worker.invariant.received

pub returns-clause-channel : goal.returns-clause-channel
returns-clause-channel g c = c.loop-worker.invariant.channel
