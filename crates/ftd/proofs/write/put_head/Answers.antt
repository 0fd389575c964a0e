use Rattle.ftd.proofs.write.put_head.Goals as goal

pub returns : goal.returns
returns c =
    rw (c.put_header.ensures, c.put_frame.ensures)
