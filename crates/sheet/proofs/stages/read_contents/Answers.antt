use Rattle.std.proofs.Common.{◌≡◌, length, take, sym, refl, subst, inl, arith}
use Rattle.std.proofs.lemmas.Result.{err_from_is_err_and}
use Rattle.text.specs.Spots.{spot}
use Rattle.text.specs.Lines.{contents_bytes}
use Rattle.sheet.specs.Kinds.{contents_rules}
use Rattle.sheet.specs.Sheets.{Within}
use Rattle.sheet.proofs.Bodies.{body_stopped}
use Rattle.sheet.proofs.Heads.{heads_good, numbers_read}
use Rattle.sheet.proofs.stages.read_contents.Goals as goal

pub returns-in_err-read_body : goal.returns-in_err-read_body
returns-in_err-read_body c =
    let p = err_from_is_err_and c.from_residual.result c.from_residual.ensures.1 in
    let l = c.read_body.new.list in
    let len : length l ≡ 4 = c.read_body.auto.list in
    let h = c.in_err-read_body.ensures.read (omega arith) 0 c.new-progress.ensures in
    rw (p.1, p.2) (record {
      read = inl (body_stopped contents_bytes contents_rules 0 4 4 (spot c.args.rd.now) (spot c.read_body.new.rd) _ l (λ xs. c.read_body.new.into.lines ≡ length xs) c.in_err-read_body.field-0.0 refl (omega arith) h);
      limits = tt;
    })

pub returns : goal.returns
returns c =
    let l = c.read_body.new.list in
    let len : length l ≡ 4 = c.read_body.auto.list in
    let h = (c.in_ok-read_body.ensures.read (omega arith) 0 c.new-progress.ensures).0 in
    let e = numbers_read l c.index-cs-0.result c.index-cs-1.result c.index-cs-2.result c.index-cs-3.result len in
    record {
      read = (take 4 l, (spot c.read_body.new.rd, h, (e, refl)));
      limits = subst Within (sym e) (heads_good (take 4 l) h.0 h.1.good).1;
    }
