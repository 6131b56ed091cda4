use Rattle.cpu.proofs.processor.Processor.jump_if.Goals as goal

pub returns-in-Jmp : goal.returns-in-Jmp
returns-in-Jmp c = rw c.in-Jmp.is c.jump.ensures

pub returns-in-Jsj : goal.returns-in-Jsj
returns-in-Jsj c = rw c.in-Jsj.is c.jump_past_j.ensures

pub returns-in-Jov : goal.returns-in-Jov
returns-in-Jov c = rw c.in-Jov.is c.jump_by_toggle.ensures

pub returns-in-Jnov : goal.returns-in-Jnov
returns-in-Jnov c = rw c.in-Jnov.is c.jump_by_toggle-in-Jnov.ensures

pub returns-in-Jl : goal.returns-in-Jl
returns-in-Jl c = rw (c.in-Jl.is, ← c.is_lt.ensures) c.jump-in-Jl.ensures

pub returns-in-Je : goal.returns-in-Je
returns-in-Je c = rw (c.in-Je.is, ← c.is_eq.ensures) c.jump-in-Je.ensures

pub returns-in-Jg : goal.returns-in-Jg
returns-in-Jg c = rw (c.in-Jg.is, ← c.is_gt.ensures) c.jump-in-Jg.ensures

pub returns-in-Jge : goal.returns-in-Jge
returns-in-Jge c = rw (c.in-Jge.is, ← c.is_ge.ensures) c.jump-in-Jge.ensures

pub returns-in-Jne : goal.returns-in-Jne
returns-in-Jne c = rw (c.in-Jne.is, ← c.is_ne.ensures) c.jump-in-Jne.ensures

pub returns-in-Jle : goal.returns-in-Jle
returns-in-Jle c = rw (c.in-Jle.is, ← c.is_le.ensures) c.jump-in-Jle.ensures
