use Rattle.answers.proofs.AnsweringAll.{answers_all}
use Rattle.answers.proofs.streaming.answer_stream.Goals as goal

pub returns-clause-answers : goal.returns-clause-answers
returns-clause-answers g c =
    answers_all _ _ c.in_ok-text.text.items c.answer.result.now _ _ c.write_answer.result
    c.in_ok-text.ensures.all c.deref.ensures.value c.answer.ensures c.write_answer.ensures.written
