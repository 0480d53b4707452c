mod AnswerRows
mod CompiledRows
