use Rattle.std.proofs.Common.{◌≡◌, ◌∙◌, sym, get_or}
use Rattle.q_text.proofs.Names.{push-name, name-stops, name-no_nul, tick-within}
use Rattle.q_text.proofs.symbols.push_names.Goals as goal

pub push-requires : goal.push-requires
push-requires c = name-no_nul c.args.text.now c.loop-end.offset c.span_end-end.result c.span_end-end.ensures.value

pub loop-end-preserved : goal.loop-end-preserved
loop-end-preserved c =
    let tick : get_or c.args.text.now c.loop-end.offset 0 ≡ 96 = sym c.byte_at.ensures ∙ c.loop-end-test.true in
    record {
      value = push-name c.loop-end.found c.push.new.self _ c.args.text.now c.loop-end.offset c.span_end-end.result (tick-within c.args.text.now c.loop-end.offset tick) tick c.span_end-end.ensures.value c.in_ok-push.ensures.ok c.loop-end.invariant.value;
      stopped = name-stops c.args.text.now c.loop-end.offset c.span_end-end.result c.span_end-end.ensures.value;
      within = c.span_end-end.ensures.within;
    }
